use Rattle.std.proofs.Common.{ℕ, ◌≡◌, ◌≢◌, ◌<◌, length, List, get_or, map, rules, refl, sym, ◌∙◌, arith}
use Rattle.std.specs.List.{All, Contains}
use Rattle.std.proofs.lemmas.List.Elements.{All-contains, All-map, All-more, All-same}
use Rattle.std.proofs.lemmas.Bool.{false≢true}
use Rattle.std.proofs.lemmas.List.{get_or-map, length-map, take_all}
use Rattle.retro_top.specs.Rows.{facts, names_of}
use Rattle.retro_top.specs.declared.rows.Row.{Row}
use Rattle.retro_top.proofs.rows.find.Goals as goal

-- the row has another name
abbrev IsOther : List ℕ → Row → Type 0
IsOther name row = row.name.now ≢ name

unlisted : (name : List ℕ) (rows : List Row) → All (IsOther name) rows → Contains (names_of rows) name → ⊥
unlisted name rows h k = All-contains (λ (other : List ℕ). other ≢ name) (names_of rows) name (All-map (λ (other : List ℕ). other ≢ name) (λ (row : Row). row.name.now) rows h) k refl

pub loop-row-preserved : goal.loop-row-preserved
loop-row-preserved c =
    let other : c.as_bytes.result.now ≢ c.args.name.now = search rules in
    All-more (IsOther c.args.name.now) c.args.rows.now c.loop-row.row-index _ c.loop-row-test.true c.loop-row.invariant (λ e. other (c.as_bytes.ensures.value ∙ e))

listed : (name : List ℕ) (rows : List Row) (k : ℕ) (d : Row) → k < length rows → (get_or rows k d).name.now ≡ name → Contains (names_of rows) name
listed name rows k d below e =
    (k, omega (arith, length-map rows (λ (row : Row). row.name.now)), get_or-map (λ (row : Row). row.name.now) rows k d name below ∙ e)

holds : (rows : List Row) (k : ℕ) (d : Row) → k < length rows → Contains (map facts rows) (facts (get_or rows k d))
holds rows k d below = (k, omega (arith, length-map rows facts), get_or-map facts rows k d (facts (get_or rows k d)) below)

pub returns-then-eq-clause-held : goal.returns-then-eq-clause-held
returns-then-eq-clause-held c = holds c.args.rows.now c.loop-row.row-index _ c.loop-row-test.true

pub returns-then-eq-clause-known : goal.returns-then-eq-clause-known
returns-then-eq-clause-known c =
    let same : c.as_bytes.result.now ≡ c.args.name.now = search rules in
    (λ _. listed c.args.name.now c.args.rows.now c.loop-row.row-index _ c.loop-row-test.true (sym c.as_bytes.ensures.value ∙ same), λ _. refl)

pub returns-clause-known : goal.returns-clause-known
returns-clause-known c =
    let none = All-same (IsOther c.args.name.now) _ _ (sym (take_all c.loop-row.row-index c.args.rows.now c.loop-row-test.false)) c.loop-row.invariant in
    (λ e. absurd (false≢true e), λ k. absurd (unlisted c.args.name.now c.args.rows.now none k))
