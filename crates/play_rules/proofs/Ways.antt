-- The squares of an open line that are in, and how far a step goes.
use Rattle.std.proofs.Common.{◌≡◌, ℕ, zero, suc, List, length, ◌+◌, ◌*◌, ◌<◌, Bool, true, false, inl, inr, set, refl, ap, sym, ◌∙◌, arith}
use Rattle.std.proofs.lemmas.Bool.{and_parts, or_cases, cases_lt, cases_eq, eqb-true, both_ways, ltb-true}
use Rattle.std.proofs.lemmas.List.{get_or-set_same, get_or-set_other}
use Rattle.board_base.specs.declared.men.Colour.{Colour}
use Rattle.board_base.specs.declared.men.Colour.TheVariants.{White, Black}
use Rattle.board_base.specs.declared.men.Kind.{Kind}
use Rattle.board_base.specs.declared.men.Kind.TheVariants.{Pawn, Knight, Bishop, Rook, Queen, King}
use Rattle.board_base.specs.Board.{Places, file, is_in, rank}
use Rattle.board_base.specs.Attacks.{distance, files_apart, is_open, king_distance, one_ahead, ranks_apart}
use Rattle.board_base.specs.declared.lines.Direction.{Direction}
use Rattle.board_base.specs.Ways.{along}
use Rattle.play_rules.specs.Reach.{IsWithin}
use Rattle.play_rules.specs.Ways.{may_step}
use Rattle.board_base.proofs.Ways.{along-end, zero-apart}
use Rattle.board_base.specs.LinesThrough.{LiesAlong}

-- a square that is in stays in when another comes in
pub in-more : (set_of : List Bool) (i t : ℕ) → i < length set_of → is_in set_of t ≡ true → is_in (set set_of i true) t ≡ true
in-more set_of i t inside had = elim (cases_eq t i) [
  | inl same ↦ ap (is_in (set set_of i true)) same ∙ get_or-set_same set_of i true false inside
  | inr other ↦ get_or-set_other set_of i t true false other ∙ had
]

-- of an open line the squares nearer than k steps are in
abbrev pub HasNearer : Places → Direction → ℕ → List Bool → ℕ → Type 0
HasNearer board d s set_of k = (t : ℕ) → t < 64 → LiesAlong d s t → is_open board s t ≡ true → king_distance s t < k → is_in set_of t ≡ true

-- and with one more square those nearer than k + 1
pub nearer-more : (board : Places) (d : Direction) (s k to : ℕ) (old new : List Bool) → IsWithin old new → is_in new to ≡ true → to ≡ along d s k → HasNearer board d s old k → HasNearer board d s new (k + 1)
nearer-more board d s k to old new kept added here before t small lies clear near = elim (cases_lt (king_distance s t) k) [
  | inl nearer ↦ kept t (before t small lies clear nearer)
  | inr far ↦
      let e : king_distance s t ≡ k = omega arith in
      let same : t ≡ to = sym (along-end d s t lies) ∙ ap (along d s) e ∙ sym here in
      ap (is_in new) same ∙ added
]

-- one rank ahead for either colour is not far
one_ahead-near : (c : Colour) (s t : ℕ) → one_ahead c s t ≡ true → ranks_apart s t < 3
unfolding distance
one_ahead-near White s t h = let up : rank t ≡ rank s + 1 = eqb-true _ _ h in omega arith
one_ahead-near Black s t h = let down : rank s ≡ rank t + 1 = eqb-true _ _ h in omega arith

some_product : (x y : ℕ) → x * y ≡ 2 → x < 3
some_product x zero e = omega arith
some_product x (suc y) e = omega arith

-- a step goes two files and two ranks at most
pub step-near : (c : Colour) (k : Kind) (s t : ℕ) → may_step c k s t ≡ true → (files_apart s t < 3) × (ranks_apart s t < 3)
unfolding may_step
step-near c Pawn s t h = elim (or_cases _ _ h) [
  | inl one ↦
      let parts = and_parts _ _ one in
      let near : files_apart s t < 2 = ltb-true _ _ parts.1 in
      (omega arith, one_ahead-near c s t parts.0)
  | inr two ↦
      let parts = and_parts _ _ two in
      let same : file s ≡ file t = eqb-true _ _ parts.0 in
      let far : ranks_apart s t ≡ 2 = eqb-true _ 2 parts.1 in
      let none : files_apart s t ≡ 0 = zero-apart _ _ same in
      (omega arith, omega arith)
]
step-near c Knight s t h =
    let e : files_apart s t * ranks_apart s t ≡ 2 = eqb-true _ 2 h in
    (some_product (files_apart s t) (ranks_apart s t) e, some_product (ranks_apart s t) (files_apart s t) (omega (arith, e)))
step-near c King s t h =
    let parts = and_parts _ _ h in
    (ltb-true _ _ parts.0, let r : ranks_apart s t < 2 = ltb-true _ _ parts.1 in omega arith)
step-near c Bishop s t h = absurd (both_ways false refl h)
step-near c Rook s t h = absurd (both_ways false refl h)
step-near c Queen s t h = absurd (both_ways false refl h)
