-- What is known of pawns.
use Rattle.std.proofs.Common.{◌≡◌, ℕ, Bool, true, false, ◌&&◌, not, refl, ap, arith}
use Rattle.std.specs.Prelude.{nat_lt}
use Rattle.std.proofs.lemmas.Bool.{and_parts, le-ltb, or_left}
use Rattle.general_lemmas.proofs.Ranges.{all-each}
use Rattle.board_base.specs.Attacks.{files_apart}
use Rattle.board_base.specs.Board.{at, is_a, is_in, is_of, is_the}
use Rattle.board_base.specs.declared.men.Colour.{Colour}
use Rattle.board_base.specs.declared.men.Kind.TheVariants.{Pawn}
use Rattle.query_base.specs.Asked.{Asked}
use Rattle.ledger_search.specs.declared.ledgers.Ledger.{Ledger}
use Rattle.ledger_lines.specs.Known.{IsKnown, is_far, is_left, is_nearer}
use Rattle.ledger_lines.specs.declared.facts.Fact.TheVariants.{Took}
use Rattle.ledger_told.specs.Due.{is_moving}

not-near : (b : Bool) (n : ℕ) → not (b && nat_lt n 0) ≡ true
not-near true n = ap not (le-ltb n 0 (omega arith))
not-near false n = refl

-- each pawn made no captures at least
pub none-taken : (q : Asked) (l : Ledger) (s : ℕ) → is_a Pawn (at q.board s) ≡ true → IsKnown (Took s 0) q l
unfolding is_far
none-taken q l s pawn = (pawn, or_left _ _ (all-each (λ h. not (is_nearer q l s 0 h)) 0 64 (λ h low high. not-near (is_left q l s h) (files_apart h s))))

pub moving-pawn : (q : Asked) (l : Ledger) (c : Colour) (s : ℕ) → is_moving q l c s ≡ true → is_a Pawn (at q.board s) ≡ true
moving-pawn q l c s moving =
    let both = and_parts (is_the c Pawn (at q.board s)) (not (is_in l.straight s)) moving in
    (and_parts (is_of c (at q.board s)) (is_a Pawn (at q.board s)) both.0).1
