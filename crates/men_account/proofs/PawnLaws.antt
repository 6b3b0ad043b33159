-- The laws on pawns' captures and files, as their clauses say them.
use Rattle.std.proofs.Common.{◌≡◌, ◌≢◌, ℕ, Bool, true, false, inl, inr, List, refl, ap, sym, ◌∙◌, arith}
use Rattle.std.specs.Prelude.{Option, Some, None}
use Rattle.std.proofs.lemmas.Bool.{both_ways, cases_Bool}
use Rattle.std.specs.List.{All, AllPairs, Contains}
use Rattle.std.proofs.lemmas.List.Elements.{Contains-get_or}
use Rattle.board_base.specs.Board.{array_of, at, is_of, is_a, man, is_the, opponent, file, rank}
use Rattle.board_base.specs.Legal.{pawn_rank}
use Rattle.board_base.specs.Game.{IsGame, board_after}
use Rattle.board_base.specs.declared.men.Colour.{Colour}
use Rattle.board_base.specs.declared.men.Colour.TheVariants.{White, Black}
use Rattle.board_base.specs.declared.men.Man.{Man}
use Rattle.board_base.specs.declared.men.Kind.{Kind}
use Rattle.board_base.specs.declared.men.Kind.TheVariants.{Pawn}
use Rattle.board_base.specs.declared.moves.Move.{Move}
use Rattle.board_base.proofs.KindsOfMen.{colour_is, kind_is}
use Rattle.men_account.specs.Labels.{label_at, labels_after, HoldsOfEach, IsHimself}
use Rattle.men_account.specs.Captures.{captured_by_pawns, BeganOnOtherFiles}
use Rattle.general_lemmas.proofs.Differing.{contains-has, pairs-differ}
use Rattle.men_account.proofs.Labelled.{labels-apart, labels-colours, labels-promotions}
use Rattle.men_account.proofs.Captured.{captured-differ, captured-enemies, captured-gone}
use Rattle.men_account.proofs.FilesLeft.{pawns-from}

pub captured-pairs : (o : List Bool) (g : List Move) (c : Colour) → IsGame o g → AllPairs (λ x y. x ≢ y) (captured_by_pawns o g c)
captured-pairs o g c game = pairs-differ (captured_by_pawns o g c) (captured-differ o g c game)

pub captured-all : (o : List Bool) (g : List Move) (c : Colour) → IsGame o g → All (λ l. is_of (opponent c) (at (array_of o) l) ≡ true) (captured_by_pawns o g c)
captured-all o g c game k d inside = captured-enemies o g c game _ (contains-has (captured_by_pawns o g c) _ (Contains-get_or (captured_by_pawns o g c) k d inside))

pub captured-none : (o : List Bool) (g : List Move) (c : Colour) → IsGame o g → (s l : ℕ) → label_at (labels_after o g) s ≡ Some l → Contains (captured_by_pawns o g c) l → ⊥
captured-none o g c game s l label h = captured-gone o g c game l s (contains-has (captured_by_pawns o g c) l h) label

pub man-of : (p : Option Man → Bool) (place : Option Man) → p None ≡ false → p place ≡ true → (man : Man) × (place ≡ Some man)
man-of p None none h = absurd (both_ways _ none h)
man-of p (Some man) none h = (man, refl)

pub same-label : (c : Colour) (k l : ℕ) → rank k ≡ pawn_rank c → rank l ≡ pawn_rank c → file k ≡ file l → k ≡ l
same-label White k l a b e = omega arith
same-label Black k l a b e = omega arith

pub files-apart : (o : List Bool) (g : List Move) (c : Colour) → IsGame o g → BeganOnOtherFiles c (board_after o g) (labels_after o g)
files-apart o g c game s t k l pawn_s pawn_t label_s label_t same =
    let a = man-of (is_the c Pawn) (at (board_after o g) s) refl pawn_s in
    let b = man-of (is_the c Pawn) (at (board_after o g) t) refl pawn_t in
    let from_a = pawns-from o g c game s k a.0 label_s a.1 (sym (ap (is_the c Pawn) a.1) ∙ pawn_s) in
    let from_b = pawns-from o g c game t l b.0 label_t b.1 (sym (ap (is_the c Pawn) b.1) ∙ pawn_t) in
    let e : k ≡ l = same-label c k l from_a.1 from_b.1 same in
    labels-apart o g game s t l (label_s ∙ ap Some e) label_t

same-parts : (c d : Colour) (k j : Kind) → c ≡ d → k ≡ j → man c k ≡ man d j
same-parts c d k j a b = cc

is-himself : (place : Option Man) (m : Man) → is_of m.colour place ≡ true → is_a m.kind place ≡ true → place ≡ Some m
is-himself None m colour kind = cc
is-himself (Some other) m colour kind =
    same-parts other.colour m.colour other.kind m.kind (sym (colour_is m.colour other.colour colour)) (sym (kind_is m.kind other.kind kind))

-- who began as no pawn is who he was
pub himself : (o : List Bool) (g : List Move) → IsGame o g → HoldsOfEach (board_after o g) (labels_after o g) (IsHimself (array_of o))
himself o g game s l m label there no_pawn = elim (cases_Bool (is_a m.kind (at (array_of o) l))) [
  | inl same ↦ is-himself (at (array_of o) l) m (labels-colours o g game s l m label there) same
  | inr other ↦ absurd (both_ways _ no_pawn (labels-promotions o g game s l m label there other).1)
]
