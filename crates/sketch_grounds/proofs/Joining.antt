-- Zones of a sketch together, and what an account finds.
use Rattle.std.proofs.Common.{◌≡◌, ℕ, ◌+◌, ◌<◌, inl, inr, Bool, true, false, List, [], ◌∷◌, ◌++◌, length, map, take, get_or, ap, sym, subst, ◌∙◌}
use Rattle.std.proofs.lemmas.Bool.{or_left, or_right}
use Rattle.std.proofs.lemmas.List.Elements.{Contains-append_cases}
use Rattle.std.specs.List.{Contains, filter, list_any}
use Rattle.general_lemmas.proofs.Lists.{contains-none}
use Rattle.board_base.specs.Board.{is_in}
use Rattle.board_base.specs.Rights.{Rights}
use Rattle.play_rules.specs.Reach.{IsWithin}
use Rattle.cage_rules.specs.Sets.{union}
use Rattle.cage_rules.proofs.Filling.{is_in-that}
use Rattle.cage_rules.proofs.SetAlgebra.{is_in-union}
use Rattle.cage_rules.proofs.Tested.{member-inside}
use Rattle.figures.specs.Figures.{Figure, Sketch, fixed_squares, is_fixed_on}
use Rattle.figures.proofs.Sketches.{figure-any}
use Rattle.past_account.specs.Frozen.{IsFrozenIn}
use Rattle.past_account.specs.Zones.{AreZones, IsZone}
use Rattle.sketch_grounds.specs.LeastZones.{has_pair, least_zone, pair_zones}
use Rattle.sketch_grounds.specs.Wide.{AreWide}
use Rattle.sketch_grounds.proofs.Filtered.{mapped-more, skipped, taken}
use Rattle.sketch_grounds.proofs.Freezing.{last-is, number-of}

pub wide-none : (sets : List (List Bool)) (squares : List Bool) → sets ≡ [] → AreWide sets squares
wide-none sets squares e = record {
  wide = λ zone h. absurd (contains-none zone (subst (λ (l : List (List Bool)). Contains l zone) e h));
  covered = λ zone h. absurd (contains-none zone (subst (λ (l : List (List Bool)). Contains l zone) e h));
}

pub wide-more : (sets new : List (List Bool)) (squares more zone : List Bool) → length squares ≡ 64 → length zone ≡ 64 → ((u : ℕ) → ((t : ℕ) → t < 64 → is_in zone t ≡ true → t ≡ u) → ⊥) → new ≡ sets ++ zone ∷ [] → more ≡ union squares zone → AreWide sets squares → AreWide new more
wide-more sets new squares more zone size zone_size wide made e was = record {
  wide = λ z h. elim (Contains-append_cases sets (zone ∷ []) z (subst (λ (l : List (List Bool)). Contains l z) made h)) [
    | inl before ↦ was.wide z before
    | inr last ↦ subst (λ (x : List Bool). (u : ℕ) → ((t : ℕ) → t < 64 → is_in x t ≡ true → t ≡ u) → ⊥) (last-is zone z last) wide
  ];
  covered = λ z h s member. ap (λ (l : List Bool). is_in l s) e ∙ elim (Contains-append_cases sets (zone ∷ []) z (subst (λ (l : List (List Bool)). Contains l z) made h)) [
    | inl before ↦ let old = was.covered z before s member in is_in-union squares zone s (member-inside squares s size old) ∙ or_left (is_in squares s) (is_in zone s) old
    | inr last ↦
        let here : is_in zone s ≡ true = ap (λ (x : List Bool). is_in x s) (last-is zone z last) ∙ member in
        is_in-union squares zone s (member-inside zone s zone_size here) ∙ or_right (is_in squares s) (is_in zone s) here
  ];
}

-- one figure more, and his zone if he has a pair
pub zones-more : (wall : List Bool) (S : Sketch) (i : ℕ) (f : Figure) (sets new : List (List Bool)) (zone : List Bool) → i < length S → get_or S i f ≡ f → has_pair wall f ≡ true → zone ≡ least_zone wall f → new ≡ sets ++ zone ∷ [] → sets ≡ pair_zones wall (take i S) → new ≡ pair_zones wall (take (i + 1) S)
zones-more wall S i f sets new zone low here has is made was =
    mapped-more (least_zone wall) (filter (has_pair wall) (take i S)) (filter (has_pair wall) (take (i + 1) S)) f sets new (taken (has_pair wall) S i f low here has) was (made ∙ ap (λ (z : List Bool). sets ++ z ∷ []) is)

pub zones-same : (wall : List Bool) (S : Sketch) (i : ℕ) (f : Figure) (sets : List (List Bool)) → i < length S → get_or S i f ≡ f → has_pair wall f ≡ false → sets ≡ pair_zones wall (take i S) → sets ≡ pair_zones wall (take (i + 1) S)
zones-same wall S i f sets low here none was = was ∙ ap (map (least_zone wall)) (sym (skipped (has_pair wall) S i f low here none))

-- each is the zone of a figure
pub are-none : (wall : List Bool) (S : Sketch) (sets : List (List Bool)) → sets ≡ [] → AreZones wall S sets
are-none wall S sets e zone h = absurd (contains-none zone (subst (λ (l : List (List Bool)). Contains l zone) e h))

pub are-more : (wall : List Bool) (S : Sketch) (f : Figure) (sets new : List (List Bool)) (zone : List Bool) → Contains S f → IsZone wall f zone → new ≡ sets ++ zone ∷ [] → AreZones wall S sets → AreZones wall S new
are-more wall S f sets new zone member is made was z h = elim (Contains-append_cases sets (zone ∷ []) z (subst (λ (l : List (List Bool)). Contains l z) made h)) [
  | inl before ↦ was z before
  | inr last ↦ let n = number-of S f member in (n.0, f, n.1, subst (IsZone wall f) (last-is zone z last) is)
]

-- a frozen set's squares are those of fixed figures
pub frozen-fixed : (held : Rights) (S : Sketch) (set : List Bool) → length set ≡ 64 → IsFrozenIn held S set → IsWithin set (fixed_squares S)
unfolding fixed_squares
frozen-fixed held S set size frozen s member =
    let b = frozen s member in
    is_in-that (λ s. list_any (is_fixed_on s) S) s (member-inside set s size member) ∙ figure-any S (is_fixed_on s) b.number b.figure b.there b.fixed
