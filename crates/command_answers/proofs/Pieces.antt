-- Texts that are written of a list, one piece for each element.
use Rattle.std.proofs.Common.{◌≡◌, ℕ, ◌+◌, ◌<◌, List, [], ◌∷◌, ◌++◌, length, take, sym, ap, subst, ◌∙◌}
use Rattle.std.specs.Prelude.{Some, slice_get}
use Rattle.std.specs.List.{All, flat_map}
use Rattle.std.proofs.lemmas.List.{flat_map_more, take_more}
use Rattle.std.proofs.lemmas.List.Elements.{All-get_or}
use Rattle.std.proofs.lemmas.Option.{get_or_from_slice_get}

pub all_at : {A : Type 0} (P : A → Type 0) (xs : List A) (i : ℕ) (x : A) → i < length xs → slice_get xs i ≡ Some x → All P xs → P x
all_at P xs i x inside there all = subst P (get_or_from_slice_get xs i x x there) (All-get_or P xs i x inside all)

-- one piece more
pub piece_more : {A : Type 0} (f : A → List ℕ) (front : List ℕ) (xs : List A) (i : ℕ) (x : A) (old new : List ℕ) → i < length xs → slice_get xs i ≡ Some x → old ≡ front ++ flat_map f (take i xs) → new ≡ old ++ f x → new ≡ front ++ flat_map f (take (i + 1) xs)
piece_more {A} f front xs i x old new inside there so_far more =
    more ∙ ap (λ (t : List ℕ). t ++ f x) so_far ∙ flat_map_more f front (take i xs) x
    ∙ ap (λ (l : List A). front ++ flat_map f l) (sym (take_more xs i x inside ∙ ap (λ (y : A). take i xs ++ y ∷ []) (get_or_from_slice_get xs i x x there)))
