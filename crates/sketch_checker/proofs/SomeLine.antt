-- Whatever line comes, the walk over lines goes on or stops.
use Rattle.std.proofs.Common.{◌≡◌, ℕ, zero, suc, ◌+◌, ◌-◌, ◌<◌, ◌≤◌, ◌⊎◌, inl, inr, Bool, true, false, ◌&&◌, ◌||◌, not, List, [], ◌∷◌, length, map, refl, ap, sym, ◌∙◌, subst, arith}
use Rattle.std.proofs.lemmas.Bool.{and_parts, both_ways, cases_Bool, cases_lt, or_cases, or_left, or_right, not-true, not_from_false, and_from}
use Rattle.std.proofs.lemmas.List.Elements.{All-from_recursion, recursion_from_All}
use Rattle.std.proofs.lemmas.Option.{none-some, same_Some}
use Rattle.std.specs.Prelude.{IsTrue, Option, Some, None, slice_get}
use Rattle.std.specs.List.{All, AllByRecursion, list_any}
use Rattle.general_lemmas.proofs.Settling.{Settled, at_most, below, both, same, test}
use Rattle.board_base.specs.Board.{array_of, at, is_in, same_colour}
use Rattle.board_base.specs.Rights.{Rights}
use Rattle.board_base.specs.declared.men.Colour.TheVariants.{White, Black}
use Rattle.board_base.specs.declared.men.Kind.{Kind}
use Rattle.board_base.specs.declared.men.Kind.TheVariants as kind
use Rattle.board_base.specs.declared.men.Man.{Man}
use Rattle.board_base.proofs.KindsOfMen.{colour_is, same_colour-self}
use Rattle.capture_prices.specs.Prices.{PriceList}
use Rattle.cage_rules.proofs.Tested.{all_board, at_board, member-inside}
use Rattle.figures.specs.Clashes.{is_nowhere}
use Rattle.figures.specs.Figures.{Figure, Sketch, figure_at, is_fixed_on, may_be}
use Rattle.figures.specs.Homes.{may_be_array}
use Rattle.sketch_proof.specs.Account.{CostTooMuch, Counted, against, by_marks}
use Rattle.sketch_proof.specs.Frozen.{AreBegun, IsBegun}
use Rattle.sketch_proof.specs.Zones.{room_past}
use Rattle.sketch_proof.specs.Basis.{AreFew, Basis, IsAbove, IsClosedAt, basis_of}
use Rattle.sketch_proof.specs.Begun.{begins_on, is_begun}
use Rattle.sketch_proof.specs.FrozenSets.{greatest_frozen}
use Rattle.sketch_proof.specs.Trees.{is_heavy}
use Rattle.sketch_proof.specs.Nodes.{IsFirstUnknown, IsMarkable, IsMarkableOn, IsUnknownOn, IsVoid, marked_with}
use Rattle.sketch_proof.specs.Listed.{earlier}
use Rattle.sketch_text.specs.Marks.{Marks}
use Rattle.sketch_text.specs.Trees.{Line, of_marks, of_node}
use Rattle.sketch_text.specs.declared.labels.Officer.TheVariants.{Knight}
use Rattle.sketch_text.specs.declared.nodes.End.{End}
use Rattle.sketch_text.specs.declared.nodes.End.TheVariants.{Void, Closed, Steps, Split}
use Rattle.sketch_text.specs.declared.nodes.SketchNode.{SketchNode}
use Rattle.sketch_proof.specs.Proofs.{AreForced, AtLine, Setting}
use Rattle.sketch_proof.proofs.Grounds.{greatest-size}
use Rattle.sketch_checker.specs.DueNodes.{Due, cases_from, due_of}
use Rattle.sketch_checker.specs.LineWalk.{OnEnd, OnLine, OnNode, OnOpened, OnStep, StopsUnless, Walking, WalksOn, ended, going, stopped}
use Rattle.sketch_checker.specs.Steering.{IsLineAt}
use Rattle.sketch_checker.specs.TreeWalk.{IsBefore, Wrong, stray, unsupported}
use Rattle.sketch_checker.specs.Walks.{Frame, Opened}
use Rattle.sketch_checker.proofs.Below.{at-line, line-at, no-line}
use Rattle.sketch_checker.proofs.Completing.{frame, opened}
use Rattle.sketch_checker.proofs.Leasts.{least-settled}
use Rattle.sketch_checker.proofs.SameLabels.{same-labels}
use Rattle.sketch_checker.proofs.Settling.{no-before}

-- LINES OF PRICES

priced-settled : (g : Setting) (k : ℕ) (P : PriceList → Type 0) → ((p : PriceList) → Settled (P p)) → Settled (AtLine g k P)
priced-settled g zero P each = inr (λ it. let one = it.from_one in omega (arith, one))
priced-settled g (suc i) P each = by-slice (slice_get g.prices i) refl
  where
    by-slice : (o : Option PriceList) → slice_get g.prices i ≡ o → Settled (AtLine g (suc i) P)
    by-slice None e = inr (no-line g (suc i) P (λ p line.
        let one = line.from_one in
        let same_ : line.index ≡ i = omega (arith, one) in
        none-some p (sym e ∙ ap (λ (j : ℕ). slice_get g.prices j) (sym same_) ∙ line.there)))
    by-slice (Some p) e =
        let line : IsLineAt g (suc i) p = record { index = i; from_one = omega arith; there = e } in
        elim (each p) [
          | inl so ↦ inl (at-line g (suc i) P p line so)
          | inr f ↦ inr (λ it. f (line-at g (suc i) P p line it))
        ]

above-settled : (b : Basis) (xs : List Counted) → Settled (IsAbove b xs)
above-settled b xs =
    same (AreFew b xs White × (AreFew b xs Black × CostTooMuch b.odds b.prices b.wall (room_past b.wall b.zones) xs)) (IsAbove b xs)
    (λ h. record { white = h.0; black = h.1.0; above = h.1.1 }) (λ h. (h.white, (h.black, h.above)))
    (both _ _ (at_most _ _) (both _ _ (at_most _ _) (below _ _)))

is-false : (b : Bool) → Settled (b ≡ false)
is-false true = inr (λ e. cc)
is-false false = inl refl

markable-settled : (b : Basis) (S : Sketch) (n : ℕ) → Settled (IsMarkableOn b S n)
markable-settled b S zero = inr (λ it. let one = it.from_one in omega (arith, one))
markable-settled b S (suc i) = by-figure (figure_at S i) refl
  where
    own : (it : IsMarkableOn b S (suc i)) → it.index ≡ i
    own it = let one = it.from_one in omega (arith, one)

    by-figure : (o : Option Figure) → figure_at S i ≡ o → Settled (IsMarkableOn b S (suc i))
    by-figure None e = inr (λ it. none-some it.figure (sym e ∙ ap (figure_at S) (sym (own it)) ∙ it.found))
    by-figure (Some f) e =
        same ((f.marked ≡ false) × ((may_be f kind.King ≡ false) × IsAbove b (against i S))) (IsMarkableOn b S (suc i))
        (λ h. record { index = i; from_one = omega arith; figure = f; found = e; unmarked = h.0; no_king = h.1.0; forced = h.1.1 })
        (λ it.
        let f_is : it.figure ≡ f = same_Some it.figure f (sym it.found ∙ ap (figure_at S) (own it) ∙ e) in
        (ap (λ (x : Figure). x.marked) (sym f_is) ∙ it.unmarked, (ap (λ (x : Figure). may_be x kind.King) (sym f_is) ∙ it.no_king, subst (λ (j : ℕ). IsAbove b (against j S)) (own it) it.forced)))
        (both _ _ (is-false f.marked) (both _ _ (is-false (may_be f kind.King)) (above-settled b (against i S))))

each-settled : (P : ℕ → Type 0) (ns : List ℕ) → ((n : ℕ) → Settled (P n)) → Settled (AllByRecursion P ns)
each-settled P [] s = inl tt
each-settled P (n ∷ ns) s = both (P n) (AllByRecursion P ns) (s n) (each-settled P ns s)

forced-settled : (g : Setting) (S : Sketch) (m : Marks) → Settled (AreForced g S m)
forced-settled g S m = priced-settled g m.by (λ p. All (λ n. IsMarkable g.odds g.held p S n) m.figures) (λ p.
    same (AllByRecursion (λ n. IsMarkable g.odds g.held p S n) m.figures) (All (λ n. IsMarkable g.odds g.held p S n) m.figures)
    (All-from_recursion (λ n. IsMarkable g.odds g.held p S n) m.figures) (recursion_from_All (λ n. IsMarkable g.odds g.held p S n) m.figures)
    (each-settled (λ n. IsMarkable g.odds g.held p S n) m.figures (markable-settled (basis_of g.odds g.held S p) S)))

-- VOID

begun-on : (o : List Bool) (s : ℕ) (f : Figure) → begins_on (at (array_of o) s) f ≡ true → IsBegun o s f
begun-on o s f h = by-place (at (array_of o) s) refl h
  where
    by-place : (place : Option Man) → at (array_of o) s ≡ place → begins_on place f ≡ true → IsBegun o s f
    by-place None e h = cc
    by-place (Some m) e h = let parts = and_parts (same_colour m.colour f.colour) (may_be f m.kind) h in (m, e, colour_is m.colour f.colour parts.0, parts.1)

begins-from : (o : List Bool) (s : ℕ) (f : Figure) → IsBegun o s f → begins_on (at (array_of o) s) f ≡ true
begins-from o s f (m, e, colour, may) =
    subst (λ (place : Option Man). begins_on place f ≡ true) (sym e) (and_from (same_colour m.colour f.colour) (may_be f m.kind) (ap (same_colour m.colour) (sym colour) ∙ same_colour-self m.colour) may)

record NotBegun (o set : List Bool) (S : Sketch) : Type 0 where
  number : ℕ
  figure : Figure
  there : figure_at S number ≡ Some figure
  fails : is_begun (array_of o) set figure ≡ false

abbrev EachBegun : List Bool → List Bool → Sketch → Type 0
EachBegun o set S = (i : ℕ) (f : Figure) → figure_at S i ≡ Some f → is_begun (array_of o) set f ≡ true

begun-or : (o set : List Bool) (S : Sketch) → EachBegun o set S ⊎ NotBegun o set S
begun-or o set_ [] = inl (λ i f e. cc)
begun-or o set_ (f ∷ S) = elim (cases_Bool (is_begun (array_of o) set_ f)) [
  | inr out ↦ inr (record { number = 0; figure = f; there = refl; fails = out })
  | inl here ↦ elim (begun-or o set_ S) [
    | inl rest ↦ inl (all here rest)
    | inr x ↦ inr (record { number = suc x.number; figure = x.figure; there = x.there; fails = x.fails })
  ]
]
  where
    all : is_begun (array_of o) set_ f ≡ true → EachBegun o set_ S → EachBegun o set_ (f ∷ S)
    all here rest zero g e = ap (is_begun (array_of o) set_) (sym (same_Some f g e)) ∙ here
    all here rest (suc i) g e = rest i g e

begun-settled : (o : List Bool) (S : Sketch) (set : List Bool) → length set ≡ 64 → Settled (AreBegun o S set)
unfolding is_begun
begun-settled o S set_ size = elim (begun-or o set_ S) [
  | inl each ↦ inl (λ s i f member found fixed. told each s i f member found fixed)
  | inr x ↦ inr (λ h. both_ways _ x.fails (tells x.figure (λ s member fixed. h s x.number x.figure member x.there fixed)))
]
  where
    tells : (f : Figure) → ((s : ℕ) → is_in set_ s ≡ true → is_fixed_on s f ≡ true → IsBegun o s f) → is_begun (array_of o) set_ f ≡ true
    tells f each = all_board (λ s. not (is_in set_ s && is_fixed_on s f) || begins_on (at (array_of o) s) f) (λ s low. elim (cases_Bool (is_in set_ s && is_fixed_on s f)) [
      | inl both_ ↦ let parts = and_parts (is_in set_ s) (is_fixed_on s f) both_ in or_right _ _ (begins-from o s f (each s parts.0 parts.1))
      | inr out ↦ or_left _ _ (not_from_false _ out)
    ])

    told : EachBegun o set_ S → (s i : ℕ) (f : Figure) → is_in set_ s ≡ true → figure_at S i ≡ Some f → is_fixed_on s f ≡ true → IsBegun o s f
    told each s i f member found fixed =
        elim (or_cases (not (is_in set_ s && is_fixed_on s f)) (begins_on (at (array_of o) s) f) (at_board (λ t. not (is_in set_ t && is_fixed_on t f) || begins_on (at (array_of o) t) f) s (each i f found) (member-inside set_ s size member))) [
          | inl out ↦ absurd (both_ways _ (not-true _ out) (and_from _ _ member fixed))
          | inr begins ↦ begun-on o s f begins
        ]

void-settled : (o : List Bool) (held : Rights) (S : Sketch) → Settled (IsVoid o held S)
void-settled o held S = elim (begun-settled o S (greatest_frozen held S) (greatest-size held S)) [
  | inl begun ↦ inr (λ void. void begun)
  | inr void ↦ inl void
]

-- STEPS

before-settled : (g : Setting) (S : Sketch) → Settled ((T : Sketch) × IsBefore g S T)
before-settled g S = elim (cases_Bool (list_any is_nowhere S)) [
  | inl none ↦ inr (λ it. both_ways _ it.1.somewhere none)
  | inr some ↦ elim (least-settled g.held g.exact S) [
    | inr f ↦ inr (λ it. f (it.0, it.1.least))
    | inl x ↦ elim (cases_Bool (may_be_array g.odds x.0)) [
      | inl array ↦ inr (λ it. no-before g S x.0 x.1 array it.0 it.1)
      | inr other ↦ inl (x.0, record { somewhere = some; least = x.1; no_array = other })
    ]
  ]
]

-- A MAN OF UNKNOWN KIND

same-truth : (a b : Bool) → Settled (a ≡ b)
same-truth true true = inl refl
same-truth true false = inr (λ e. cc)
same-truth false true = inr (λ e. cc)
same-truth false false = inl refl

-- his kinds
kinds-settled : (f : Figure) → Settled ((k : Kind) → may_be f k ≡ is_heavy k)
kinds-settled f =
    same ((may_be f kind.Pawn ≡ false) × ((may_be f kind.Knight ≡ true) × ((may_be f kind.Bishop ≡ false) × ((may_be f kind.Rook ≡ true) × ((may_be f kind.Queen ≡ true) × (may_be f kind.King ≡ false))))))
    ((k : Kind) → may_be f k ≡ is_heavy k)
    (λ h k. each h k)
    (λ h. (h kind.Pawn, (h kind.Knight, (h kind.Bishop, (h kind.Rook, (h kind.Queen, h kind.King))))))
    (both _ _ (same-truth (may_be f kind.Pawn) false) (both _ _ (same-truth (may_be f kind.Knight) true) (both _ _ (same-truth (may_be f kind.Bishop) false) (both _ _ (same-truth (may_be f kind.Rook) true) (both _ _ (same-truth (may_be f kind.Queen) true) (same-truth (may_be f kind.King) false))))))
  where
    each : (may_be f kind.Pawn ≡ false) × ((may_be f kind.Knight ≡ true) × ((may_be f kind.Bishop ≡ false) × ((may_be f kind.Rook ≡ true) × ((may_be f kind.Queen ≡ true) × (may_be f kind.King ≡ false))))) → (k : Kind) → may_be f k ≡ is_heavy k
    each h kind.Pawn = h.0
    each h kind.Knight = h.1.0
    each h kind.Bishop = h.1.1.0
    each h kind.Rook = h.1.1.1.0
    each h kind.Queen = h.1.1.1.1.0
    each h kind.King = h.1.1.1.1.1

unknown-settled : (S : Sketch) (s i : ℕ) → Settled (IsUnknownOn S s i)
unknown-settled S s i = by-figure (figure_at S i) refl
  where
    by-figure : (o : Option Figure) → figure_at S i ≡ o → Settled (IsUnknownOn S s i)
    by-figure None e = inr (λ it. none-some it.unknown.figure (sym e ∙ it.unknown.found))
    by-figure (Some f) e =
        same (((k : Kind) → may_be f k ≡ is_heavy k) × IsTrue (is_fixed_on s f)) (IsUnknownOn S s i)
        (λ h. record { unknown = record { figure = f; found = e; kinds = h.0 }; fixed = h.1 })
        (λ it.
        let f_is : it.unknown.figure ≡ f = same_Some it.unknown.figure f (sym it.unknown.found ∙ e) in
        ((λ k. ap (λ (x : Figure). may_be x k) (sym f_is) ∙ it.unknown.kinds k), subst (λ (x : Figure). is_fixed_on s x ≡ true) f_is it.fixed))
        (both _ _ (kinds-settled f) (test (is_fixed_on s f)))

past-end : (S : Sketch) (i : ℕ) → length S ≤ i → figure_at S i ≡ None
past-end [] i past = refl
past-end (f ∷ S) zero past = absurd (let never : ⊥ = omega (arith, past) in never)
past-end (f ∷ S) (suc i) past = past-end S i (omega (arith, past))

first-below : (S : Sketch) (s n : ℕ) → ((i : ℕ) → i < n → IsUnknownOn S s i → ⊥) ⊎ ((i : ℕ) × IsFirstUnknown S s i)
first-below S s zero = inl (λ i low it. omega (arith, low))
first-below S s (suc n) = elim (first-below S s n) [
  | inr x ↦ inr x
  | inl none ↦ elim (unknown-settled S s n) [
    | inl here ↦ inr (n, record { there = here; first = none })
    | inr f ↦ inl (λ i low it. elim (cases_lt i n) [
      | inl lower ↦ none i lower it
      | inr past ↦ let same_ : i ≡ n = omega (arith, low, past) in f (subst (IsUnknownOn S s) same_ it)
    ])
  ]
]

first-or : (S : Sketch) (s : ℕ) → ((i : ℕ) → IsUnknownOn S s i → ⊥) ⊎ ((i : ℕ) × IsFirstUnknown S s i)
first-or S s = elim (first-below S s (length S)) [
  | inr x ↦ inr x
  | inl none ↦ inl (λ i it. elim (cases_lt i (length S)) [
    | inl low ↦ none i low it
    | inr past ↦ none-some it.unknown.figure (sym (past-end S i past) ∙ it.unknown.found)
  ])
]

-- THE WALK

stops-some : (P : Type 0) (n : ℕ) (w : Wrong) (Next : Walking → Type 0) → Settled P → (a : Walking) × Next a → (a : Walking) × StopsUnless P n w a (Next a)
stops-some P n w Next (inr f) some = (stopped n w, inl (f, refl))
stops-some P n w Next (inl p) some = (some.0, inr (p, some.1))

end-some : (e : End) (g : Setting) (S : Sketch) (top : ℕ) (fs : List Frame) → (a : Walking) × OnEnd e g S top fs a
end-some Void g S top fs = stops-some (IsVoid g.odds g.held S) top unsupported (λ a. a ≡ ended fs) (void-settled g.odds g.held S) (ended fs, refl)
end-some (Closed k) g S top fs =
    stops-some (AtLine g k (λ p. IsClosedAt g.odds g.held S p)) top unsupported (λ a. a ≡ ended fs) (priced-settled g k (λ p. IsClosedAt g.odds g.held S p) (λ p. above-settled (basis_of g.odds g.held S p) (by_marks S))) (ended fs, refl)
end-some (Steps m) g S top fs = elim (before-settled g S) [
  | inl x ↦ (ended (frame top m (map due_of (earlier g.odds g.exact x.0)) ∷ fs), inr (x.0, x.1, refl))
  | inr f ↦ (stopped top unsupported, inl ((λ T it. f (T, it)), refl))
]
end-some (Split s) g S top fs = elim (first-or S s) [
  | inl none ↦ (stopped top unsupported, inl (none, refl))
  | inr x ↦ (ended (frame top 3 (cases_from Knight x.0 S) ∷ fs), inr (x.0, x.1, refl))
]

opened-some : (c : ℕ) (g : Setting) (o : Opened) (fs : List Frame) → (a : Walking) × OnOpened c g o fs a
opened-some zero g o fs = end-some o.end g o.sketch o.line fs
opened-some (suc c) g o fs = (going (Some o) fs, refl)

node-some : (ds : List Due) (g : Setting) (f : Frame) (fs : List Frame) (n : ℕ) (x : SketchNode) → (a : Walking) × OnNode ds g f fs n x a
node-some [] g f fs n x = (stopped n stray, refl)
node-some (d ∷ ds) g f fs n x =
    let o : Opened = opened n x.marks x.end d.sketch in
    let below_ : List Frame = frame f.line (f.announced - 1) ds ∷ fs in
    stops-some (x.label ≡ d.label) n stray (OnOpened x.marks g o below_) (same-labels x.label d.label) (opened-some x.marks g o below_)

pub line-some : (g : Setting) (o : Option Opened) (fs : List Frame) (n : ℕ) (l : Line) → (a : Walking) × OnLine g o fs n l a
line-some g (Some o) fs n (of_marks m) =
    let next : Opened = opened o.line (o.marks - 1) o.end (marked_with m.figures o.sketch) in
    stops-some (AreForced g o.sketch m) n unsupported (OnOpened (o.marks - 1) g next fs) (forced-settled g o.sketch m) (opened-some (o.marks - 1) g next fs)
line-some g (Some o) fs n (of_node x) = (going (Some o) fs, refl)
line-some g None [] n l = (going None [], refl)
line-some g None (f ∷ fs) n (of_node x) = node-some f.due g f fs n x
line-some g None (f ∷ fs) n (of_marks m) = (going None (f ∷ fs), refl)

step-some : (g : Setting) (w : Walking) (n : ℕ) (l : Line) → (a : Walking) × OnStep g w n l a
step-some g (going o fs) n l = line-some g o fs n l
step-some g (stopped m w) n l = (stopped m w, refl)

pub walk-some : (g : Setting) (ls : List Line) (w : Walking) (n : ℕ) → (a : Walking) × WalksOn g w n ls a
walk-some g [] w n = (w, refl)
walk-some g (l ∷ ls) w n =
    let next = step-some g w n l in
    let rest = walk-some g ls next.0 (n + 1) in
    (rest.0, (next.0, next.1, rest.1))
