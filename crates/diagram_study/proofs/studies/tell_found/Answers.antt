use Rattle.std.proofs.Common.{ℕ, List, ap, ◌∙◌, ◌++◌, arith}
use Rattle.std.specs.Prelude.{IsTrue}
use Rattle.std.proofs.lemmas.List.Elements.{All-same}
use Rattle.cert_text.specs.ClaimLines.{promotes_well}
use Rattle.codex_verdict.specs.Rights.{claim_of}
use Rattle.line_claims.specs.Lines.{in_order}
use Rattle.ledger_told.specs.Line.{Line}
use Rattle.ledger_told.specs.Told.{lines_text}
use Rattle.diagram_study.specs.Pairs.{HasStuckPairText}
use Rattle.diagram_study.specs.Rights.{HasStuckText}
use Rattle.diagram_study.specs.Texts.{capture_lines, castling_lines, ends_text, held_text, pair_lines}
use Rattle.diagram_study.specs.declared.held.HeldFound.{HeldFound}
use Rattle.diagram_study.specs.declared.pairs.PairFound.{PairFound}
use Rattle.diagram_study.specs.declared.rights.RightFound.{RightFound}
use Rattle.ledger_told.proofs.Joining.{ok_then}
use Rattle.diagram_study.proofs.Telling.{all_told}
use Rattle.diagram_study.proofs.studies.tell_found.Goals as goal

pub tell_castlings-requires : goal.tell_castlings-requires
tell_castlings-requires c = All-same HasStuckText _ _ c.as_slice-rights.ensures.value c.requires.rights

pub tell_pairs-requires-clause-order : goal.tell_pairs-requires-clause-order
tell_pairs-requires-clause-order c = All-same (λ (f : PairFound). IsTrue (in_order f.first f.second)) _ _ c.as_slice.ensures.value c.requires.order

pub tell_pairs-requires-clause-texts : goal.tell_pairs-requires-clause-texts
tell_pairs-requires-clause-texts c = All-same HasStuckPairText _ _ c.as_slice.ensures.value c.requires.pairs

pub tell_captures-requires-clause-promotions : goal.tell_captures-requires-clause-promotions
tell_captures-requires-clause-promotions c = All-same (λ (f : RightFound). IsTrue (promotes_well (claim_of f.right))) _ _ c.as_slice-rights.ensures.value c.requires.promotions

pub tell_captures-requires-clause-texts : goal.tell_captures-requires-clause-texts
tell_captures-requires-clause-texts c = All-same HasStuckText _ _ c.as_slice-rights.ensures.value c.requires.rights

pub push_ends-requires-clause-few : goal.push_ends-requires-clause-few
push_ends-requires-clause-few c = let few = c.requires.left.few in omega (arith, few, c.len.ensures)

pub returns : goal.returns
returns c =
    ok_then c.push_length.result _ _
    (all_told c.args.found.now _ _ _ _ _ _ _ _ _ _ _ _
    c.in_ok-push_decided.ensures
    (c.in_ok-tell_castlings.ensures ∙ ap (λ (l : List RightFound). c.push_decided.new.text.items ++ castling_lines l) c.as_slice-rights.ensures.value)
    (c.in_ok-tell_pairs.ensures ∙ ap (λ (l : List PairFound). c.tell_castlings.new.text.items ++ pair_lines l) c.as_slice.ensures.value)
    (c.in_ok-tell_captures.ensures ∙ ap (λ (l : List RightFound). c.tell_pairs.new.text.items ++ capture_lines l) c.as_slice-rights.ensures.value)
    c.in_ok-push_last.ensures
    c.in_ok-push_forced.ensures
    c.in_ok-push_left.ensures
    (c.in_ok-push_ends.ensures ∙ ap (λ (n : ℕ). c.push_left.new.text.items ++ ends_text c.args.found.now.ends n) c.len.ensures)
    (c.in_ok-write_lines.ensures ∙ ap (λ (l : List Line). c.push_ends.new.text.items ++ lines_text l) c.as_slice-2.ensures.value)
    (c.in_ok-tell_held.ensures ∙ ap (λ (l : List HeldFound). c.write_lines.new.out.items ++ held_text l) c.as_slice-3.ensures.value))
    c.push_length.ensures
