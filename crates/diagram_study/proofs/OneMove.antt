-- Unmoves that all have one move.
use Rattle.std.proofs.Common.{◌≡◌, ℕ, zero, suc, ◌+◌, ◌<◌, ◌≤◌, Bool, true, false, cond, List, [], ◌∷◌, length, take, refl, ap, sym, subst, ◌∙◌}
use Rattle.std.specs.Prelude.{◌&&◌, IsTrue, Some, None, slice_get}
use Rattle.std.specs.List.{All, list_all}
use Rattle.std.proofs.lemmas.List.{take_all}
use Rattle.std.proofs.lemmas.List.Folds.{list_all-append}
use Rattle.std.proofs.lemmas.List.Sums.{AllPass-from_list_all}
use Rattle.std.proofs.Math.Bool.{and-false}
use Rattle.general_lemmas.proofs.Splits.{up_to}
use Rattle.board_base.specs.Legal.{is_move}
use Rattle.board_base.specs.declared.moves.Move.{Move}
use Rattle.board_base.specs.declared.unmoves.Unmove.{Unmove}
use Rattle.diagram_study.specs.Retractions.{one_move}
use Rattle.claim_findings.proofs.Steps.{at_place}

-- the unmove has this move
abbrev pub has_move : Move → Unmove → Bool
has_move m u = is_move (Some m) u.mv

none_given : (left : List Unmove) → slice_get left 0 ≡ None → left ≡ []
none_given [] none = refl
none_given (u ∷ us) none = cc

pub no_move : (left : List Unmove) → slice_get left 0 ≡ None → None ≡ one_move left
unfolding one_move
no_move left none = ap one_move (sym (none_given left none))

pub by_first : (left : List Unmove) (first : Unmove) → slice_get left 0 ≡ Some first → one_move left ≡ cond (list_all (has_move first.mv) left) (Some first.mv) None
unfolding one_move
by_first [] first here = cc
by_first (u ∷ us) first here =
    let same : u ≡ first = cc in
    subst (λ (w : Unmove). one_move (u ∷ us) ≡ cond (list_all (has_move w.mv) (u ∷ us)) (Some w.mv) None) same refl

-- another move is left
pub some_fails : {A : Type 0} (p : A → Bool) (xs : List A) (i : ℕ) (x : A) → slice_get xs i ≡ Some x → p x ≡ false → list_all p xs ≡ false
some_fails p [] i x here fails = cc
some_fails p (y ∷ xs) zero x here fails =
    let same : y ≡ x = cc in
    ap (λ (b : Bool). b && list_all p xs) (ap p same ∙ fails)
some_fails p (y ∷ xs) (suc i) x here fails = ap (λ (b : Bool). p y && b) (some_fails p xs i x here fails) ∙ and-false (p y)

-- so many pass, and one more
pub passes_more : {A : Type 0} (p : A → Bool) (xs : List A) (i : ℕ) (x : A) → i < length xs → slice_get xs i ≡ Some x → p x ≡ true → list_all p (take i xs) ≡ true → list_all p (take (i + 1) xs) ≡ true
passes_more p xs i x inside there has so_far =
    ap (list_all p) (up_to xs i x inside (at_place xs i x there)) ∙ list_all-append p (take i xs) (x ∷ [])
    ∙ ap (λ (b : Bool). b && list_all p (x ∷ [])) so_far ∙ ap (λ (b : Bool). b && true) has

pub all_pass : {A : Type 0} (p : A → Bool) (xs : List A) (i : ℕ) → length xs ≤ i → list_all p (take i xs) ≡ true → list_all p xs ≡ true
all_pass p xs i past all = ap (list_all p) (sym (take_all i xs past)) ∙ all

first_has : (u : Unmove) (us : List Unmove) (m : Move) (b : Bool) → list_all (has_move u.mv) (u ∷ us) ≡ b → cond b (Some u.mv) None ≡ Some m → All (λ v. IsTrue (is_move (Some m) v.mv)) (u ∷ us)
first_has u us m true all e =
    let same : u.mv ≡ m = cc in
    subst (λ (n : Move). All (λ v. IsTrue (is_move (Some n) v.mv)) (u ∷ us)) same (AllPass-from_list_all (has_move u.mv) (u ∷ us) all)
first_has u us m false all e = cc

-- where all of them have one move, each has it
pub all_have : (left : List Unmove) (m : Move) → one_move left ≡ Some m → All (λ u. IsTrue (is_move (Some m) u.mv)) left
unfolding one_move
all_have [] m e = cc
all_have (u ∷ us) m e = first_has u us m (list_all (has_move u.mv) (u ∷ us)) refl e
