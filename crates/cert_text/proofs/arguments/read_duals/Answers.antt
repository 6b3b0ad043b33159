use Rattle.std.proofs.Common.{◌≡◌, ◌+◌, ◌++◌, [], List, ℕ, ◌∷◌, Bor, rules, to_z, of_z, w8, sym, ap, subst, ◌∙◌, arith}
use Rattle.std.specs.Prelude.{ℤ, Option, Some, None}
use Rattle.std.proofs.lemmas.Int.{to_z-of_z}
use Rattle.price_text.proofs.WordLemmas.{cut_word, left}
use Rattle.cert_text.proofs.WordTexts.{RowsSoFar, rows_bad, rows_begun, rows_end, rows_many, rows_next, rows_slash}
use Rattle.cert_text.proofs.arguments.read_duals.Goals as goal

pub loop-n-init : goal.loop-n-init
loop-n-init g c =
    subst (λ (u : List ℤ). RowsSoFar g.row.W c.args.text.now 0 c.args.text.now u) (sym c.new-u.ensures) (rows_begun g.row.W c.args.text.now)

pub returns-in_default : goal.returns-in_default
returns-in_default g c = rows_end g.row.W c.args.text.now c.loop-n.n c.loop-n.rest.now c.loop-n.u.items c.split_part.result.0.now c.requires.some (cut_word c.loop-n.rest.now c.split_part.result.0.now c.split_part.result.1 c.split_part.ensures.part.free c.split_part.ensures.rest ∙ ap (λ (o : Option (Bor (List ℕ))). c.split_part.result.0.now ∷ left o) c.in_default.is) c.loop-n.invariant

pub returns-in-Some-read_columns : goal.returns-in-Some-read_columns
returns-in-Some-read_columns g c =
    rows_slash g.row.W c.args.text.now c.loop-n.n c.loop-n.rest.now c.loop-n.u.items c.split_part.result.0.now c.in-Some.more.now (Some c.in-Some-read_columns.v) (cut_word c.loop-n.rest.now c.split_part.result.0.now c.split_part.result.1 c.split_part.ensures.part.free c.split_part.ensures.rest ∙ ap (λ (o : Option (Bor (List ℕ))). c.split_part.result.0.now ∷ left o) c.in-Some.is) (sym c.is_slash.ensures ∙ c.if-is_slash.true) (sym c.in-Some-read_columns.ensures) c.loop-n.invariant

pub returns-in-None : goal.returns-in-None
returns-in-None g c =
    rows_slash g.row.W c.args.text.now c.loop-n.n c.loop-n.rest.now c.loop-n.u.items c.split_part.result.0.now c.in-Some.more.now None (cut_word c.loop-n.rest.now c.split_part.result.0.now c.split_part.result.1 c.split_part.ensures.part.free c.split_part.ensures.rest ∙ ap (λ (o : Option (Bor (List ℕ))). c.split_part.result.0.now ∷ left o) c.in-Some.is) (sym c.is_slash.ensures ∙ c.if-is_slash.true) (sym c.in-None.ensures) c.loop-n.invariant

pub returns-then-n : goal.returns-then-n
returns-then-n g c =
    rows_many g.row.W c.args.text.now c.loop-n.n c.loop-n.rest.now c.loop-n.u.items c.split_part.result.0.now (left (Some c.in-Some.more)) (cut_word c.loop-n.rest.now c.split_part.result.0.now c.split_part.result.1 c.split_part.ensures.part.free c.split_part.ensures.rest ∙ ap (λ (o : Option (Bor (List ℕ))). c.split_part.result.0.now ∷ left o) c.in-Some.is) (sym c.is_slash.ensures ∙ c.if-is_slash.false) (omega (arith, c.if-n.true)) c.loop-n.invariant

pub returns-in_default-read_signed : goal.returns-in_default-read_signed
returns-in_default-read_signed g c =
    rows_bad g.row.W c.args.text.now c.loop-n.n c.loop-n.rest.now c.loop-n.u.items c.split_part.result.0.now (left (Some c.in-Some.more)) (cut_word c.loop-n.rest.now c.split_part.result.0.now c.split_part.result.1 c.split_part.ensures.part.free c.split_part.ensures.rest ∙ ap (λ (o : Option (Bor (List ℕ))). c.split_part.result.0.now ∷ left o) c.in-Some.is) (sym c.is_slash.ensures ∙ c.if-is_slash.false) (sym c.in_default-read_signed.ensures) c.loop-n.invariant

pub loop-n-preserved : goal.loop-n-preserved
loop-n-preserved g c =
    let few = c.loop-n.invariant.few in
    let same : to_z w8 (of_z w8 c.in-Some-read_signed.x) ≡ c.in-Some-read_signed.x = to_z-of_z w8 c.in-Some-read_signed.x (search rules) in
    let here = (cut_word c.loop-n.rest.now c.split_part.result.0.now c.split_part.result.1 c.split_part.ensures.part.free c.split_part.ensures.rest ∙ ap (λ (o : Option (Bor (List ℕ))). c.split_part.result.0.now ∷ left o) c.in-Some.is) in
    subst (λ (u : List ℤ). RowsSoFar g.row.W c.args.text.now (c.loop-n.n + 1) c.in-Some.more.now u) (sym (c.push.ensures.items ∙ ap (λ (x : ℤ). c.loop-n.u.items ++ x ∷ []) same))
    (rows_next g.row.W c.args.text.now c.loop-n.n c.loop-n.rest.now c.loop-n.u.items c.split_part.result.0.now c.in-Some.more.now c.in-Some-read_signed.x here (sym c.is_slash.ensures ∙ c.if-is_slash.false) (omega (arith, c.if-n.false)) (sym c.in-Some-read_signed.ensures) c.loop-n.invariant)
