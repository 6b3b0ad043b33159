use Rattle.std.proofs.Common.{◌≡◌, ℕ, List, Option, Bor, sym, ap, ◌∙◌}
use Rattle.std.specs.Option.{option_and_then, option_map}
use Rattle.std.specs.Prelude.{Some}
use Rattle.capture_prices.specs.Prices.{PriceList, priced}
use Rattle.capture_prices.specs.declared.prices.Gate.{Gate}
use Rattle.price_text.specs.Words.{words}
use Rattle.price_text.specs.PriceTexts.{gates_from, gates_in, prices_of, takes_from}
use Rattle.price_text.proofs.WordLemmas.{left}
use Rattle.price_text.proofs.PriceTexts.{prices_read}
use Rattle.price_text.proofs.PriceWords.{after_black, after_white, gates_none, gates_some, no_white, read_with}
use Rattle.price_text.proofs.price_reading.read_prices.Goals as goal

pub returns-in_default : goal.returns-in_default
returns-in_default c = sym (no_white c.args.text.now c.in_default.ensures)

pub returns-in_default-1₀ : goal.returns-in_default-1₀
returns-in_default-1₀ c =
    sym (after_white c.args.text.now c.in-Some.white.0 (left c.in-Some.white.1) (read_with (words c.args.text.now) c.in-Some.white.0 c.in-Some.white.1 c.in-Some.ensures)
    ∙ ap (λ (o : Option (Bor (List ℕ))). option_and_then (gates_in c.in-Some.white.0) (takes_from 16 (left o))) c.in_default-1₀.is)

pub returns-in_default-read_takes : goal.returns-in_default-read_takes
returns-in_default-read_takes c =
    sym (after_white c.args.text.now c.in-Some.white.0 (left c.in-Some.white.1) (read_with (words c.args.text.now) c.in-Some.white.0 c.in-Some.white.1 c.in-Some.ensures)
    ∙ ap (λ (o : Option (Bor (List ℕ))). option_and_then (gates_in c.in-Some.white.0) (takes_from 16 (left o))) c.in-Some-1₀.is
    ∙ ap (option_and_then (gates_in c.in-Some.white.0)) c.in_default-read_takes.ensures)

-- both sides were read
both : (text white black : List ℕ) (o after : Option (Bor (List ℕ))) (rest : Bor (List ℕ)) → takes_from 16 (words text) ≡ Some (white, left o) → o ≡ Some rest → takes_from 16 (words rest.now) ≡ Some (black, left after) → prices_of text ≡ option_map (λ (gates : List Gate). priced white black gates) (gates_from 16 0 (left after))
both text white black o after rest first is second =
    after_black text white black (words rest.now) (left after) (first ∙ ap (λ (x : Option (Bor (List ℕ))). let q : Option (List ℕ × List (List ℕ)) = Some (white, left x) in q) is) second

-- and gates
all : (text white black : List ℕ) (gates : List Gate) (o after : Option (Bor (List ℕ))) (rest : Bor (List ℕ)) → takes_from 16 (words text) ≡ Some (white, left o) → o ≡ Some rest → takes_from 16 (words rest.now) ≡ Some (black, left after) → gates_from 16 0 (left after) ≡ Some gates → prices_of text ≡ Some (priced white black gates)
all text white black gates o after rest first is second third =
    both text white black o after rest first is second ∙ ap (option_map (λ (gates : List Gate). priced white black gates)) third

pub known-requires : goal.known-requires
known-requires c =
    (prices_read c.args.text.now (priced c.in-Some.white.0 c.in-Some-read_takes.black.0 c.as_slice.result.now) (all c.args.text.now c.in-Some.white.0 c.in-Some-read_takes.black.0 c.as_slice.result.now c.in-Some.white.1 c.in-Some-read_takes.black.1 c.in-Some-1₀.rest
    (read_with (words c.args.text.now) c.in-Some.white.0 c.in-Some.white.1 c.in-Some.ensures) c.in-Some-1₀.is (read_with (words c.in-Some-1₀.rest.now) c.in-Some-read_takes.black.0 c.in-Some-read_takes.black.1 c.in-Some-read_takes.ensures)
    (gates_some c.in-Some-read_gates_behind.gates.items c.in-Some-read_takes.black.1 c.in-Some-read_gates_behind.ensures ∙ ap (λ (l : List Gate). Some l) (sym c.as_slice.ensures.value)))).known

pub returns-in-Some-read_gates_behind : goal.returns-in-Some-read_gates_behind
returns-in-Some-read_gates_behind c =
    ap (λ (p : PriceList). Some p) c.known.ensures ∙ sym (all c.args.text.now c.in-Some.white.0 c.in-Some-read_takes.black.0 c.as_slice.result.now c.in-Some.white.1 c.in-Some-read_takes.black.1 c.in-Some-1₀.rest
    (read_with (words c.args.text.now) c.in-Some.white.0 c.in-Some.white.1 c.in-Some.ensures) c.in-Some-1₀.is (read_with (words c.in-Some-1₀.rest.now) c.in-Some-read_takes.black.0 c.in-Some-read_takes.black.1 c.in-Some-read_takes.ensures)
    (gates_some c.in-Some-read_gates_behind.gates.items c.in-Some-read_takes.black.1 c.in-Some-read_gates_behind.ensures ∙ ap (λ (l : List Gate). Some l) (sym c.as_slice.ensures.value)))

pub returns-in-None : goal.returns-in-None
returns-in-None c =
    sym (both c.args.text.now c.in-Some.white.0 c.in-Some-read_takes.black.0 c.in-Some.white.1 c.in-Some-read_takes.black.1 c.in-Some-1₀.rest
    (read_with (words c.args.text.now) c.in-Some.white.0 c.in-Some.white.1 c.in-Some.ensures) c.in-Some-1₀.is (read_with (words c.in-Some-1₀.rest.now) c.in-Some-read_takes.black.0 c.in-Some-read_takes.black.1 c.in-Some-read_takes.ensures)
    ∙ ap (option_map (λ (gates : List Gate). priced c.in-Some.white.0 c.in-Some-read_takes.black.0 gates)) (gates_none c.in-Some-read_takes.black.1 c.in-None.ensures))
