use Rattle.std.proofs.Common.{◌≡◌, ◌++◌, ℕ, List, length, rules, ap, sym, ◌∙◌, subst}
use Rattle.play_rules.specs.States.{Position}
use Rattle.san_text.specs.Spellable.{IsSmallSaid}
use Rattle.san_text.specs.Spelling.{spelling, said_text, mark_text, mark_of, named}
use Rattle.san_text.specs.declared.marks.Mark.{Mark}
use Rattle.san_text.proofs.Candidates.{from_inside}
use Rattle.san_text.specs.Fits.{IsOnly, fits_text}
use Rattle.san_text.proofs.Spelled.{spelling_only}
use Rattle.san_text.proofs.Written.{named_small, next_is}
use Rattle.san_text.proofs.writing.write_san.Goals as goal

pub push_said-requires-clause-small : goal.push_said-requires-clause-small
push_said-requires-clause-small c =
    let p = c.args.state.now in
    let size : length p.board ≡ 64 = search rules in
    subst IsSmallSaid (sym c.named.ensures) (named_small p c.args.m.now (from_inside p size c.args.m.now c.requires.legal))

written : (c : goal.After-push_mark) → c.push_mark.new.out.items ≡ spelling c.args.state.now c.args.m.now
unfolding spelling
written c =
    let p = c.args.state.now in
    let m = c.args.m.now in
    c.push_mark.ensures
    ∙ ap (λ (l : List ℕ). l ++ mark_text c.mark_of.result) (c.push_said.ensures.text ∙ ap (λ (l : List ℕ). l ++ said_text c.named.result) c.requires.empty ∙ ap said_text c.named.ensures)
    ∙ ap (λ (k : Mark). said_text (named p m) ++ mark_text k) c.mark_of.ensures
    ∙ ap (λ (q : Position). said_text (named p m) ++ mark_text (mark_of q)) (next_is p m c.in-Ok.next c.in-Ok.ensures.here.1)

pub returns-in-Ok : goal.returns-in-Ok
returns-in-Ok c =
    let p = c.args.state.now in
    let m = c.args.m.now in
    let size : length p.board ≡ 64 = search rules in
    record {
      text = written c;
      read = subst (λ (l : List ℕ). IsOnly (fits_text l p) m) (sym (written c)) (spelling_only p m size c.requires.legal);
    }
