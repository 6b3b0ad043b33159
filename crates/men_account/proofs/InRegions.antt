-- Where men stay in regions, the counts of promoted men and of captures by pawns.
use Rattle.std.proofs.Common.{◌≡◌, ℕ, ◌+◌, ◌<◌, ◌≤◌, Bool, true, false, ◌&&◌, not, inl, inr, List, [], ◌∷◌, refl, sym, ◌∙◌, subst, arith}
use Rattle.std.proofs.lemmas.Bool.{and_parts, and_from, both_ways, not-true, not_from_false, false_from_ne_true}
use Rattle.std.proofs.lemmas.List.{append-nil}
use Rattle.std.specs.Prelude.{Option, Some, None, ℤ, pos, ◌+ℤ◌, ◌≤ℤ◌}
use Rattle.board_base.specs.Board.{Places, array_of, at, is_of, is_a, opponent, same_colour, is_like}
use Rattle.board_base.specs.Legal.{is_officer}
use Rattle.board_base.specs.Game.{IsGame, board_after}
use Rattle.board_base.specs.declared.men.Colour.{Colour}
use Rattle.board_base.specs.declared.men.Kind.TheVariants.{Pawn}
use Rattle.board_base.specs.declared.men.Man.{Man}
use Rattle.board_base.specs.declared.moves.Move.{Move}
use Rattle.board_base.proofs.KindsOfMen.{no_officer, same_kind-self, same_colour-self}
use Rattle.general_lemmas.proofs.Ranges.{all_in_range}
use Rattle.play_rules.proofs.Kings.{within, length-after}
use Rattle.assignment.specs.Assignments.{IsBounded, total}
use Rattle.pawn_assign.specs.PawnCosts.{pawn_costs}
use Rattle.men_account.specs.Account.{men, is_any, counts_of, excess_of, allowance_of}
use Rattle.men_account.specs.Labels.{label_at, labels_after}
use Rattle.men_account.specs.Captures.{taken_on, captured_by_pawns, IsTakenIn}
use Rattle.men_account.specs.Homes.{is_officer_of, AreGoneOtherwise, men_of}
use Rattle.men_account.specs.HomeRegions.{StandInRegions, is_deserted, IsOutOfReach, StayInRegions, is_lost}
use Rattle.men_account.proofs.Labelled.{labels-each_man}
use Rattle.men_account.proofs.Captured.{man-there}
use Rattle.men_account.proofs.PawnLaws.{himself}
use Rattle.men_account.proofs.Moments.{captured-moments}
use Rattle.men_account.proofs.Homes.{promotions-most}
use Rattle.men_account.proofs.Paired.{bound-missing}

-- an officer's home is no pawn's
pub officer-no-pawn : (c : Colour) (place : Option Man) → is_officer_of c place ≡ true → is_a Pawn place ≡ false
officer-no-pawn c None officer = refl
officer-no-pawn c (Some m) officer = no_officer Pawn m.kind refl (and_parts (same_colour c m.colour) (is_officer m.kind) officer).1

alike-self : (place : Option Man) (m : Man) → place ≡ Some m → is_like place place ≡ true
alike-self None m e = cc
alike-self (Some other) m e = and_from _ _ (same_colour-self other.colour) (same_kind-self other.kind)

alike-none : (place : Option Man) → is_like place None ≡ false
alike-none None = refl
alike-none (Some m) = refl

-- where somebody has the label, the region isn't deserted
not-deserted : (o : List Bool) (g : List Move) (c : Colour) (region : ℕ → ℕ → Bool) → IsGame o g → StandInRegions (array_of o) c region (labels_after o g) → (s h : ℕ) → label_at (labels_after o g) s ≡ Some h → is_officer_of c (at (array_of o) h) ≡ true → is_deserted (array_of o) (board_after o g) region h ≡ true → ⊥
unfolding is_deserted
not-deserted o g c region game stand s h label officer deserted =
    let board : Places = board_after o g in
    let man = man-there board (labels_after o g) s h (labels-each_man o g game) label in
    let same : at (array_of o) h ≡ at board s = himself o g game s h man.0 label man.1 (officer-no-pawn c (at (array_of o) h) officer) ∙ sym man.1 in
    let alike : is_like (at (array_of o) h) (at board s) ≡ true = subst (λ (p : Option Man). is_like (at (array_of o) h) p ≡ true) same (alike-self (at (array_of o) h) man.0 (same ∙ man.1)) in
    let inside : s < 64 = rw (← length-after o g game) (within (is_like (at (array_of o) h)) board s (alike-none (at (array_of o) h)) alike) in
    let tested = all_in_range (λ t. not (region h t && is_like (at (array_of o) h) (at board t))) 0 64 s deserted (omega arith) (omega arith) in
    both_ways _ (not-true _ tested) (and_from _ _ (stand s h label officer) alike)

-- the pawns and the officers above those whose homes aren't deserted
pub promotions-regions : (o : List Bool) (g : List Move) (c : Colour) (region : ℕ → ℕ → Bool) → IsGame o g → StandInRegions (array_of o) c region (labels_after o g) → excess_of (counts_of c (board_after o g)) (allowance_of c (λ h. not (is_deserted (array_of o) (board_after o g) region h)) (array_of o)) ≤ men c Pawn is_any (array_of o)
promotions-regions o g c region game stand =
    promotions-most o g c (λ h. not (is_deserted (array_of o) (board_after o g) region h)) game (λ s h label officer. not_from_false _ (false_from_ne_true _ (not-deserted o g c region game stand s h label officer)))

-- no pawn took a man in a region that is out of reach
taken-reach : (o : List Bool) (g : List Move) (c : Colour) (region : ℕ → ℕ → Bool) (h : ℕ) → StayInRegions o g (opponent c) region → IsOutOfReach o g c region h → is_officer_of (opponent c) (at (array_of o) h) ≡ true → IsTakenIn o c h g → ⊥
taken-reach o g c region h stay reach officer (before, m, after, split, takes) = elim takes.target [
  | inl here ↦
      let inside : region h m.to ≡ true = subst (λ (t : ℕ). region h t ≡ true) here (stay before (m ∷ after) split (taken_on (board_after o before) m) h takes.label officer) in
      reach before m after split takes.pawn takes.ahead takes.aside inside
  | inr past ↦ both_ways _ (officer-no-pawn (opponent c) (at (array_of o) h) officer) (and_parts (is_of (opponent c) (at (array_of o) h)) (is_a Pawn (at (array_of o) h)) past.1).1
]

gone-otherwise : (o : List Bool) (g : List Move) (c : Colour) (region : ℕ → ℕ → Bool) (shielded : ℕ → Bool) → IsGame o g → StayInRegions o g (opponent c) region → ((h : ℕ) → shielded h ≡ true → IsOutOfReach o g c region h) → AreGoneOtherwise (array_of o) (opponent c) (is_lost (array_of o) (board_after o g) (opponent c) region shielded) (labels_after o g) (captured_by_pawns o g c)
gone-otherwise o g c region shielded game stay reach h own lost =
    let parts = and_parts (is_officer_of (opponent c) (at (array_of o) h) && is_deserted (array_of o) (board_after o g) region h) (shielded h) lost in
    let both = and_parts (is_officer_of (opponent c) (at (array_of o) h)) (is_deserted (array_of o) (board_after o g) region h) parts.0 in (
      λ s label. not-deserted o g (opponent c) region game (stay g [] (sym (append-nil g))) s h label both.0 both.1,
      λ taken. taken-reach o g c region h stay (reach h parts.1) both.0 (captured-moments o g c game h taken),
    )

pub potentials-regions : (o : List Bool) (g : List Move) (c : Colour) (region : ℕ → ℕ → Bool) (shielded : ℕ → Bool) (u v : List ℤ) → IsGame o g → StayInRegions o g (opponent c) region → ((h : ℕ) → shielded h ≡ true → IsOutOfReach o g c region h) → IsBounded 8 (pawn_costs o c (board_after o g)) u v → ((total u +ℤ total v) +ℤ pos (men_of (opponent c) is_any (board_after o g) + men_of (opponent c) (is_lost (array_of o) (board_after o g) (opponent c) region shielded) (array_of o))) ≤ℤ pos (men_of (opponent c) is_any (array_of o))
potentials-regions o g c region shielded u v game stay reach bounded =
    bound-missing o g c (is_lost (array_of o) (board_after o g) (opponent c) region shielded) u v game bounded (gone-otherwise o g c region shielded game stay reach)
