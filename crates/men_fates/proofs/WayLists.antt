-- Ways of two parts, one after the other.
use Rattle.std.proofs.Common.{◌≡◌, ℕ, ◌==◌, Bool, true, false, cond, ◌&&◌, List, [], ◌∷◌, ◌++◌, refl, ap, sym, ◌∙◌}
use Rattle.std.proofs.lemmas.Bool.{and_parts, and_from, cond-false, cond-true, true_from_ne_false}
use Rattle.general_lemmas.proofs.Truth.{and-joined}
use Rattle.board_base.specs.Board.{file}
use Rattle.board_base.specs.declared.men.Colour.{Colour}
use Rattle.men_fates.specs.Ways.{is_pawn_step, is_way, way_end, captures_on, is_straight}

pub end-append : (s : ℕ) (a b : List ℕ) → way_end s (a ++ b) ≡ way_end (way_end s a) b
end-append s [] b = refl
end-append s (t ∷ a) b = end-append t a b

pub way-append : (c : Colour) (set : List Bool) (s : ℕ) (a b : List ℕ) → is_way c set s (a ++ b) ≡ (is_way c set s a && is_way c set (way_end s a) b)
way-append c set s [] b = refl
way-append c set s (t ∷ a) b = ap (λ (x : Bool). is_pawn_step c set s t && x) (way-append c set t a b) ∙ and-joined (is_pawn_step c set s t) (is_way c set t a) (is_way c set (way_end t a) b)

captured-joined : (e : Bool) (t : ℕ) (xs ys : List ℕ) → cond e (xs ++ ys) (t ∷ (xs ++ ys)) ≡ cond e xs (t ∷ xs) ++ ys
captured-joined true t xs ys = refl
captured-joined false t xs ys = refl

pub captures-append : (s : ℕ) (a b : List ℕ) → captures_on s (a ++ b) ≡ captures_on s a ++ captures_on (way_end s a) b
captures-append s [] b = refl
captures-append s (t ∷ a) b =
    ap (λ (l : List ℕ). cond (file s == file t) l (t ∷ l)) (captures-append t a b) ∙ captured-joined (file s == file t) t (captures_on t a) (captures_on (way_end t a) b)

-- a way is straight exactly where it has no capture
pub straight-none : (s : ℕ) (way : List ℕ) → is_straight s way ≡ true → captures_on s way ≡ []
straight-none s [] h = refl
straight-none s (t ∷ way) h =
    let parts = and_parts (file s == file t) (is_straight t way) h in
    cond-true (file s == file t) (captures_on t way) (t ∷ captures_on t way) parts.0 ∙ straight-none t way parts.1

pub none-straight : (s : ℕ) (way : List ℕ) → captures_on s way ≡ [] → is_straight s way ≡ true
none-straight s [] h = refl
none-straight s (t ∷ way) h =
    let same : (file s == file t) ≡ true = true_from_ne_false _ (λ other. let e = sym (cond-false (file s == file t) (captures_on t way) (t ∷ captures_on t way) other) ∙ h in cc) in
    and_from _ _ same (none-straight t way (sym (cond-true (file s == file t) (captures_on t way) (t ∷ captures_on t way) same) ∙ h))
