-- What can be settled of squares' men, moves and rights: that two are equal, and what holds of each colour and each castling. And
-- whether a list of truth values is a set of men who may be left out.
use Rattle.std.proofs.Common.{◌≡◌, ◌<◌, ℕ, Bool, false, ◌&&◌, List, inl, inr, length, refl, rules, arith}
use Rattle.std.specs.Prelude.{IsTrue, Option}
use Rattle.std.specs.Bool.{Decides, beq}
use Rattle.std.specs.Option.{option_eq}
use Rattle.std.specs.Cmp.{unsigned_Decides}
use Rattle.std.specs.Cmp.Lexicographic.{pointwise}
use Rattle.std.proofs.lemmas.Bool.{both_ways, cases_lt}
use Rattle.std.proofs.lemmas.List.{get_or_past}
use Rattle.std.proofs.lemmas.Slice.Eq.{slice_eq-Decides}
use Rattle.general_lemmas.proofs.Settling.{Settled, both, by_test, each_below, implied, same, test}
use Rattle.board_base.specs.Board.{AreOdds, Places, is_in, may_lack}
use Rattle.board_base.specs.Rights.{Rights}
use Rattle.board_base.specs.declared.castles.Castle.{Castle}
use Rattle.board_base.specs.declared.castles.Castle.TheVariants.{WhiteShort, WhiteLong, BlackShort, BlackLong}
use Rattle.board_base.specs.declared.men.Man.{Man}
use Rattle.board_base.specs.declared.men.Colour.{Colour}
use Rattle.board_base.specs.declared.men.Colour.TheVariants.{White, Black}
use Rattle.board_base.specs.declared.moves.Move.{Move}
use Rattle.board_base.specs.contracts.men.ColourPartialEq.TheImpl as colours
use Rattle.board_base.specs.contracts.men.KindPartialEq.TheImpl as kinds
use Rattle.board_base.specs.contracts.moves.MovePartialEq.TheImpl as moves

abbrev pub man_eq : Man → Man → Bool
man_eq x y = colours.ghosts.eq x.colour y.colour && kinds.ghosts.eq x.kind y.kind

abbrev pub move_eq : Move → Move → Bool
move_eq = moves.eq-value.it

abbrev pub rights_eq : Rights → Rights → Bool
rights_eq a b = beq a.white_short b.white_short && (beq a.white_long b.white_long && (beq a.black_short b.black_short && beq a.black_long b.black_long))

pub colours_decide : (a b : Colour) → Decides (colours.ghosts.eq a b) (a ≡ b)
colours_decide a b = search rules

men_decide : (a b : Man) → Decides (man_eq a b) (a ≡ b)
men_decide a b = search rules

pub places_decide : (a b : Option Man) → Decides (option_eq man_eq a b) (a ≡ b)
places_decide a b = search rules

pub boards_decide : (a b : Places) → Decides (pointwise (option_eq man_eq) a b) (a ≡ b)
boards_decide a b = slice_eq-Decides places_decide a b (pointwise (option_eq man_eq) a b) refl

pub rights_decide : (a b : Rights) → Decides (rights_eq a b) (a ≡ b)
rights_decide a b = search rules

pub moves_decide : (a b : Option Move) → Decides (option_eq move_eq a b) (a ≡ b)
moves_decide a b = search rules

of-colours : (P : Colour → Type 0) → P White → P Black → (c : Colour) → P c
of-colours P w b White = w
of-colours P w b Black = b

pub each_colour : (P : Colour → Type 0) → Settled (P White) → Settled (P Black) → Settled ((c : Colour) → P c)
each_colour P (inl w) (inl b) = inl (of-colours P w b)
each_colour P (inl w) (inr g) = inr (λ h. g (h Black))
each_colour P (inr f) b = inr (λ h. f (h White))

of-castles : (P : Castle → Type 0) → P WhiteShort → P WhiteLong → P BlackShort → P BlackLong → (x : Castle) → P x
of-castles P a b c d WhiteShort = a
of-castles P a b c d WhiteLong = b
of-castles P a b c d BlackShort = c
of-castles P a b c d BlackLong = d

pub each_castle : (P : Castle → Type 0) → ((x : Castle) → Settled (P x)) → Settled ((x : Castle) → P x)
each_castle P s =
    let parts = both (P WhiteShort × P WhiteLong) (P BlackShort × P BlackLong) (both _ _ (s WhiteShort) (s WhiteLong)) (both _ _ (s BlackShort) (s BlackLong)) in
    same ((P WhiteShort × P WhiteLong) × (P BlackShort × P BlackLong)) ((x : Castle) → P x) (λ h. of-castles P h.0.0 h.0.1 h.1.0 h.1.1) (λ h. ((h WhiteShort, h WhiteLong), (h BlackShort, h BlackLong))) parts

-- whether the men on these squares may be left out
pub odds_settled : (o : List Bool) → Settled (AreOdds o)
odds_settled o =
    let size = by_test (length o ≡ 64) _ (unsigned_Decides (length o) 64) in
    let homes = each_below (λ s. IsTrue (is_in o s) → IsTrue (may_lack s)) 64 (λ s. implied _ _ (test (is_in o s)) (test (may_lack s))) in
    same ((length o ≡ 64) × ((s : ℕ) → s < 64 → IsTrue (is_in o s) → IsTrue (may_lack s))) (AreOdds o)
    (λ h. record {
      size = h.0;
      only_homes = λ s there. elim (cases_lt s 64) [
        | inl low ↦ h.1 s low there
        | inr past ↦ absurd (both_ways _ (get_or_past o s false (omega (arith, h.0))) there)
      ];
    })
    (λ odds. (odds.size, λ s low. odds.only_homes s)) (both _ _ size homes)
