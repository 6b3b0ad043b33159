use Rattle.std.proofs.Common.{rules, ◌≡◌, ◌∙◌, ap, ℕ, ◌-◌, List, length, take, drop, true, false, nat_eq}
use Rattle.std.proofs.lemmas.List.{take_rest}
use Rattle.std.specs.Prelude.{codes}
use Rattle.std.specs.List.{starts_with}
use Rattle.std.specs.Option.{option_and_then}
use Rattle.board_base.specs.Texts.{move_of}
use Rattle.cert_text.specs.ClaimLines.{capture_claimed}
use Rattle.cert_text.proofs.ClaimTexts.{capture_text}
use Rattle.cert_text.proofs.claims.read_claim.Goals as goal

pub returns-then-starts_with-3 : goal.returns-then-starts_with-3
returns-then-starts_with-3 c =
    let last : starts_with nat_eq c.args.line.now (codes "claim last ") ≡ false = search rules in
    let lost : starts_with nat_eq c.args.line.now (codes "claim lost ") ≡ false = search rules in
    let ep : starts_with nat_eq c.args.line.now (codes "claim ep ") ≡ true = search rules in
    let rest : take (length c.args.line.now - 9) (drop 9 c.args.line.now) ≡ drop 9 c.args.line.now = take_rest c.args.line.now 9 in
    let is : c.read_capture.result ≡ option_and_then capture_claimed (move_of (drop 9 c.args.line.now)) = c.read_capture.ensures ∙ ap (λ (l : List ℕ). option_and_then capture_claimed (move_of l)) rest in
    capture_text c.args.line.now c.read_capture.result last lost ep is
