-- No game leads to a query where a side has more promoted men, or its pawns took more men, than there can have been.
use Rattle.std.proofs.Common.{◌≡◌, ℕ, ◌+◌, ◌<◌, ◌≤◌, inl, inr, Bool, true, false, cond, ◌&&◌, ◌||◌, not, List, refl, ap, sym, ◌∙◌, subst, arith}
use Rattle.std.proofs.lemmas.Bool.{and_parts, both_ways, not_from_false, false_from_ne_true}
use Rattle.std.proofs.lemmas.Int.{ints}
use Rattle.std.specs.Prelude.{Option, Some, None, ℤ, pos, ◌+ℤ◌, ◌≤ℤ◌, ◌<ℤ◌}
use Rattle.board_base.specs.Board.{Places, array_of, initial_array, is_in, at, is_a, is_of, is_the, opponent, same_colour, same_kind}
use Rattle.board_base.specs.Legal.{is_officer}
use Rattle.board_base.specs.Game.{board_after}
use Rattle.board_base.specs.declared.men.Colour.{Colour}
use Rattle.board_base.specs.declared.men.Kind.{Kind}
use Rattle.board_base.specs.declared.men.Kind.TheVariants.{Pawn, Knight, Bishop, Rook, Queen, King}
use Rattle.board_base.specs.declared.men.Man.{Man}
use Rattle.board_base.specs.declared.moves.Move.{Move}
use Rattle.board_base.proofs.Without.{at-without}
use Rattle.men_account.specs.Assignments.{IsBounded, total}
use Rattle.men_account.specs.PawnCosts.{pawn_costs}
use Rattle.men_account.specs.Account.{counts_of, excess_of, is_any, allowance_of}
use Rattle.men_account.specs.Labels.{label_at, labels_after}
use Rattle.men_account.specs.Captures.{captured_by_pawns, IsTakenIn}
use Rattle.men_account.specs.Homes.{is_officer_of, AreGoneOtherwise, men_of}
use Rattle.men_account.proofs.Homes.{promotions-most}
use Rattle.men_account.proofs.Moments.{captured-moments}
use Rattle.men_account.proofs.Paired.{bound-missing}
use Rattle.query_base.specs.Asked.{Asked}
use Rattle.cage_rules.specs.Laws.{Caged}
use Rattle.cage_rules.specs.Reach.{LeadsTo}
use Rattle.cage_rules.specs.Frozen.{IsFrozen}
use Rattle.cage_rules.specs.Regions.{beginner, is_dead, is_officer_home, is_shielded}
use Rattle.cage_rules.specs.Refuted.{HasTooMany, NeedTooMany, is_spent}
use Rattle.cage_rules.proofs.Gone.{dead-gone, shielded-unpawned}
use Rattle.cage_rules.proofs.WalledGames.{caged-walled}

pub officer-kind : (k : Kind) → is_officer k ≡ true → (same_kind Knight k || same_kind Bishop k || same_kind Rook k || same_kind Queen k) ≡ true
officer-kind Pawn h = cc
officer-kind Knight h = refl
officer-kind Bishop h = refl
officer-kind Rook h = refl
officer-kind Queen h = refl
officer-kind King h = cc

more-than : (a b c : ℕ) → a < b → c ≡ b → c ≤ a → ⊥
more-than a b c many here most = omega arith

-- an officer of the first board began on an officer's home, which was not left out
officer-home : (b : Bool) (c : Colour) (place : Option Man) → is_officer_of c (cond b None place) ≡ true → (b ≡ false) × ((is_a Knight place || is_a Bishop place || is_a Rook place || is_a Queen place) ≡ true)
officer-home true c place h = absurd (both_ways false refl h)
officer-home false c None h = absurd (both_ways false refl h)
officer-home false c (Some m) h = (refl, officer-kind m.kind (and_parts (same_colour c m.colour) (is_officer m.kind) h).1)

pub home-there : (o : List Bool) (c : Colour) (h : ℕ) → is_officer_of c (at (array_of o) h) ≡ true → (is_in o h ≡ false) × (is_officer_home h ≡ true)
unfolding array_of beginner
home-there o c h officer = officer-home (is_in o h) c (at initial_array h) (sym (ap (is_officer_of c) (at-without o initial_array h)) ∙ officer)

pub promo-refuted : (o : List Bool) (q : Asked) (set : List Bool) (c : Colour) → IsFrozen q set → HasTooMany o q set c → (g : List Move) → LeadsTo o g q → ⊥
promo-refuted o q set c frozen many g leads =
    let caged : Caged o g q set = record { leads = leads; frozen = frozen } in
    let most = promotions-most o g c (λ h. not (is_dead q.board set h)) leads.game (λ s h label officer.
    let home = home-there o c h officer in
    not_from_false _ (false_from_ne_true _ (λ dead. dead-gone o g q set h caged home.1 home.0 dead s label))) in
    let here : excess_of (counts_of c (board_after o g)) (allowance_of c (λ h. not (is_dead q.board set h)) (array_of o)) ≡ excess_of (counts_of c q.board) (allowance_of c (λ h. not (is_dead q.board set h)) (array_of o)) =
    ap (λ (b : Places). excess_of (counts_of c b) (allowance_of c (λ h. not (is_dead q.board set h)) (array_of o))) leads.board in
    more-than _ _ _ many here most

above-all : (sum : ℤ) (all board after spent : ℕ) → pos all <ℤ (sum +ℤ pos (board + spent)) → after ≡ board → (sum +ℤ pos (after + spent)) ≤ℤ pos all → ⊥
above-all sum all board after spent many here most = omega (arith, ints)

not-out : (b : Bool) (c : Colour) (place : Option Man) → is_of c (cond b None place) ≡ true → b ≡ false
not-out true c place h = absurd (both_ways false refl h)
not-out false c place h = refl

no-pawn-kind : (k : Kind) → (same_kind Knight k || same_kind Bishop k || same_kind Rook k || same_kind Queen k) ≡ true → same_kind Pawn k ≡ true → ⊥
no-pawn-kind Pawn h pawn = both_ways false refl h
no-pawn-kind Knight h pawn = both_ways false refl pawn
no-pawn-kind Bishop h pawn = both_ways false refl pawn
no-pawn-kind Rook h pawn = both_ways false refl pawn
no-pawn-kind Queen h pawn = both_ways false refl pawn
no-pawn-kind King h pawn = both_ways false refl pawn

-- an officer's home is no pawn's
home-no-pawn : (place : Option Man) → (is_a Knight place || is_a Bishop place || is_a Rook place || is_a Queen place) ≡ true → is_a Pawn place ≡ true → ⊥
home-no-pawn None h pawn = both_ways false refl pawn
home-no-pawn (Some m) h pawn = no-pawn-kind m.kind h pawn

kept-pawn : (b : Bool) (c : Colour) (place : Option Man) → is_the c Pawn (cond b None place) ≡ true → is_a Pawn place ≡ true
kept-pawn true c place h = absurd (both_ways false refl h)
kept-pawn false c place h = (and_parts (is_of c place) (is_a Pawn place) h).1

spent-untaken : (o : List Bool) (g : List Move) (q : Asked) (set : List Bool) (c : Colour) (h : ℕ) → Caged o g q set → is_officer_home h ≡ true → is_in o h ≡ false → is_shielded set h ≡ true → IsTakenIn o c h g → ⊥
unfolding array_of beginner
spent-untaken o g q set c h caged home there shielded (before, m, after, split, takes) = elim takes.target [
  | inl here ↦
      let label : label_at (labels_after o before) m.to ≡ Some h = subst (λ (t : ℕ). label_at (labels_after o before) t ≡ Some h) here takes.label in
      both_ways _ (shielded-unpawned o g set h (caged-walled o g q set caged) home there shielded before m (after, split) label) (and_parts (is_of c (at (board_after o before) m.from)) (is_a Pawn (at (board_after o before) m.from)) takes.pawn).1
  | inr past ↦ home-no-pawn (at initial_array h) home (kept-pawn (is_in o h) (opponent c) (at initial_array h) (sym (ap (is_the (opponent c) Pawn) (at-without o initial_array h)) ∙ past.1))
]

-- where a home is dead and shielded, its man is gone, and no pawn took him
spent-gone : (o : List Bool) (g : List Move) (q : Asked) (set : List Bool) (c : Colour) → Caged o g q set → AreGoneOtherwise (array_of o) (opponent c) (is_spent q.board set) (labels_after o g) (captured_by_pawns o g c)
unfolding array_of beginner
spent-gone o g q set c caged h own spent =
    let parts = and_parts (is_officer_home h && is_dead q.board set h) (is_shielded set h) spent in
    let dead = and_parts (is_officer_home h) (is_dead q.board set h) parts.0 in
    let there : is_in o h ≡ false = not-out (is_in o h) (opponent c) (at initial_array h) (sym (ap (is_of (opponent c)) (at-without o initial_array h)) ∙ own) in
    (dead-gone o g q set h caged dead.0 there dead.1, λ taken. spent-untaken o g q set c h caged dead.0 there parts.1 (captured-moments o g c caged.leads.game h taken))

pub caps-refuted : (o : List Bool) (q : Asked) (set : List Bool) (c : Colour) (u v : List ℤ) → IsFrozen q set → NeedTooMany o q set c u v → (g : List Move) → LeadsTo o g q → ⊥
caps-refuted o q set c u v frozen many g leads =
    let caged : Caged o g q set = record { leads = leads; frozen = frozen } in
    let bounded : IsBounded 8 (pawn_costs o c (board_after o g)) u v = subst (λ (b : Places). IsBounded 8 (pawn_costs o c b) u v) (sym leads.board) many.bounded in
    let most = bound-missing o g c (is_spent q.board set) u v leads.game bounded (spent-gone o g q set c caged) in
    let here : men_of (opponent c) is_any (board_after o g) ≡ men_of (opponent c) is_any q.board = ap (men_of (opponent c) is_any) leads.board in
    above-all (total u +ℤ total v) _ _ _ _ many.above here most
