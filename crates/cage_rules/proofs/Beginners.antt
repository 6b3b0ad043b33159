-- The whole array.
use Rattle.std.proofs.Common.{◌≡◌, ℕ, ◌<◌, inl, inr, Bool, true, false, cond, ◌||◌, arith, List, length, refl, ap, sym, ◌∙◌, ◌==◌, ◌&&◌, not}
use Rattle.std.specs.Prelude.{Option, None}
use Rattle.board_base.specs.Board.{Places, array_of, at, file, initial_array, is_in, is_a, no_men}
use Rattle.board_base.specs.declared.men.Man.{Man}
use Rattle.board_base.proofs.Without.{at-without}
use Rattle.std.proofs.lemmas.Bool.{agree_below_at, and_left, both_ways, cases_lt, false_from_ne_true}
use Rattle.std.proofs.lemmas.List.{get_or_past, length-replicate}
use Rattle.board_base.specs.declared.men.Kind.TheVariants.{Knight, Bishop, Rook, Queen}
use Rattle.play_rules.specs.Laws.{is_end}
use Rattle.cage_rules.specs.Regions.{beginner, is_officer_home}
use Rattle.cage_rules.proofs.Filling.{Filled, filled-start}
use Rattle.board_base.proofs.KindsOfMen.{none-stand}

-- a man who isn't left out begins where he begins in the whole array
pub array-there : (o : List Bool) (s : ℕ) → is_in o s ≡ false → at (array_of o) s ≡ at initial_array s
unfolding array_of
array-there o s kept = at-without o initial_array s ∙ ap (λ (b : Bool). cond b None (at initial_array s)) kept

-- a board to be filled
pub empty-board : (f : ℕ → Option Man) (board : Places) → board ≡ no_men → Filled f None board 0
empty-board f board e = filled-start f None board (ap length e ∙ length-replicate {A = Option Man} 64 None) (λ t. ap (λ (b : Places). at b t) e ∙ none-stand 64 t)

length-whole : length initial_array ≡ 64
unfolding initial_array
length-whole = refl

-- officers begin on the board
pub officer-inside : (h : ℕ) → is_officer_home h ≡ true → h < 64
unfolding beginner
officer-inside h home = elim (cases_lt h 64) [
  | inl inside ↦ inside
  | inr past ↦
      let none : at initial_array h ≡ None = get_or_past initial_array h None (omega (arith, length-whole)) in
      absurd (both_ways _ (ap (λ (p : Option Man). is_a Knight p || is_a Bishop p || is_a Rook p || is_a Queen p) none) home)
]

-- the homes of officers are the squares of ranks 1 and 8 other than those of the kings
home-table : (h : ℕ) → h < 64 → (is_end h && not (file h == 4)) ≡ is_officer_home h
unfolding beginner initial_array
home-table h inside = agree_below_at (λ h. is_end h && not (file h == 4)) is_officer_home 64 h refl inside

pub home-on : (h : ℕ) (b : Bool) → b ≡ is_end h → b ≡ true → h < 64 → not (file h == 4) ≡ is_officer_home h
home-on h b e on inside = ap (λ (x : Bool). x && not (file h == 4)) (sym (sym e ∙ on)) ∙ home-table h inside

pub home-off : (h : ℕ) (b : Bool) → b ≡ is_end h → b ≡ false → false ≡ is_officer_home h
home-off h b e off = sym (false_from_ne_true _ (λ home. both_ways _ (sym (home-table h (officer-inside h home)) ∙ and_left (is_end h) (not (file h == 4)) (sym e ∙ off)) home))
