-- Inner: no public clause cites this file.
-- Sets of kinds, as lists in the order of the kinds.
use Rattle.std.specs.Prelude.{◌≡◌, Bool, true, false, ◌||◌, List, [], ◌∷◌, refl}
use Rattle.std.specs.List.{list_any}
use Rattle.std.proofs.Common.{ap, ◌∙◌}
use Rattle.board_base.specs.Board.{same_kind}
use Rattle.board_base.specs.declared.men.Kind.{Kind}
use Rattle.board_base.specs.declared.men.Kind.TheVariants.{Pawn, Knight, Bishop, Rook, Queen, King}

-- the kind is among these
abbrev pub has_kind : Kind → List Kind → Bool
has_kind k l = list_any (λ j. same_kind j k) l

-- these kinds, after this one if the test says so
abbrev pub one_if : Bool → Kind → List Kind → List Kind
one_if true k l = k ∷ l
one_if false k l = l

-- the kinds for which the tests say so, in their order
abbrev pub kinds_of : Bool → Bool → Bool → Bool → Bool → Bool → List Kind
kinds_of p n b r q k = one_if p Pawn (one_if n Knight (one_if b Bishop (one_if r Rook (one_if q Queen (one_if k King [])))))

skip : (b : Bool) (k j : Kind) (l : List Kind) → same_kind k j ≡ false → has_kind j (one_if b k l) ≡ has_kind j l
skip true k j l e = ap (λ (x : Bool). x || has_kind j l) e
skip false k j l e = refl

found : (b : Bool) (k : Kind) (l : List Kind) → same_kind k k ≡ true → has_kind k l ≡ false → has_kind k (one_if b k l) ≡ b
found true k l self none = ap (λ (x : Bool). x || has_kind k l) self
found false k l self none = none

pub has-king : (p n b r q k : Bool) → has_kind King (kinds_of p n b r q k) ≡ k
has-king p n b r q k = skip p Pawn King _ refl ∙ skip n Knight King _ refl ∙ skip b Bishop King _ refl ∙ skip r Rook King _ refl ∙ skip q Queen King _ refl ∙ found k King [] refl refl

pub has-queen : (p n b r q k : Bool) → has_kind Queen (kinds_of p n b r q k) ≡ q
has-queen p n b r q k = skip p Pawn Queen _ refl ∙ skip n Knight Queen _ refl ∙ skip b Bishop Queen _ refl ∙ skip r Rook Queen _ refl ∙ found q Queen _ refl (skip k King Queen [] refl)

pub has-rook : (p n b r q k : Bool) → has_kind Rook (kinds_of p n b r q k) ≡ r
has-rook p n b r q k = skip p Pawn Rook _ refl ∙ skip n Knight Rook _ refl ∙ skip b Bishop Rook _ refl ∙ found r Rook _ refl (skip q Queen Rook _ refl ∙ skip k King Rook [] refl)

pub has-bishop : (p n b r q k : Bool) → has_kind Bishop (kinds_of p n b r q k) ≡ b
has-bishop p n b r q k = skip p Pawn Bishop _ refl ∙ skip n Knight Bishop _ refl ∙ found b Bishop _ refl (skip r Rook Bishop _ refl ∙ skip q Queen Bishop _ refl ∙ skip k King Bishop [] refl)

pub has-knight : (p n b r q k : Bool) → has_kind Knight (kinds_of p n b r q k) ≡ n
has-knight p n b r q k = skip p Pawn Knight _ refl ∙ found n Knight _ refl (skip b Bishop Knight _ refl ∙ skip r Rook Knight _ refl ∙ skip q Queen Knight _ refl ∙ skip k King Knight [] refl)

pub has-pawn : (p n b r q k : Bool) → has_kind Pawn (kinds_of p n b r q k) ≡ p
has-pawn p n b r q k = found p Pawn _ refl (skip n Knight Pawn _ refl ∙ skip b Bishop Pawn _ refl ∙ skip r Rook Pawn _ refl ∙ skip q Queen Pawn _ refl ∙ skip k King Pawn [] refl)
