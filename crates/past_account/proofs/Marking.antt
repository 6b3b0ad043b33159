-- Marks in the account, and marks that an account forces.
use Rattle.std.proofs.Common.{◌≡◌, ℕ, ◌==◌, inl, inr, Bool, true, false, cond, not, List, refl, ap, sym, ◌∙◌, subst}
use Rattle.std.proofs.lemmas.Bool.{cases_Bool, eqb-true}
use Rattle.std.proofs.lemmas.Option.{same_Some}
use Rattle.board_base.specs.Board.{at}
use Rattle.board_base.specs.Game.{board_after}
use Rattle.board_base.specs.declared.men.Man.{Man}
use Rattle.board_base.specs.declared.moves.Move.{Move}
use Rattle.men_account.proofs.Labelled.{labels-apart}
use Rattle.cage_rules.specs.Laws.{Walled}
use Rattle.capture_prices.specs.Prices.{PriceList}
use Rattle.past_sketches.specs.Figures.{Figure, Sketch}
use Rattle.past_sketches.specs.Fits.{Fits, IsManOf, MayBeMarked, is_plain}
use Rattle.past_account.specs.Account.{IsClosedBy, IsForcedBy, mark_limit}
use Rattle.past_account.specs.Limits.{Limit, allows, any, other, plain}
use Rattle.past_account.specs.Zones.{room_past}
use Rattle.past_account.proofs.Closing.{figures-fit}
use Rattle.past_account.proofs.Rooms.{has-room}

-- what a mark says is true
mark-allows : (b so : Bool) → (b ≡ true → so ≡ true) → allows (cond b plain any) so ≡ true
mark-allows true so told = told refl
mark-allows false so told = refl

-- where no figure's man came otherwise than his mark says, the account doesn't close
pub account-closes : (o : List Bool) (g : List Move) (S : Sketch) (set : List Bool) (zones : List (List Bool)) (p : PriceList) → Fits o g S → Walled o g set → IsClosedBy o S set zones p → ⊥
account-closes o g S set zones p fits walled closed =
    figures-fit o g S set p fits walled closed.prices closed.fixed (room_past set zones) (has-room o g S set fits walled zones closed.zones_are) (λ i f. mark_limit f) (λ i f s m there is. mark-allows f.marked (is_plain o g (fits.label i) m) is.mark) closed.above

-- a label has one man
one-man : (o : List Bool) (g : List Move) (set : List Bool) (f h : Figure) (l s t : ℕ) (m n : Man) → Walled o g set → IsManOf o g f l s m → IsManOf o g h l t n → m ≡ n
one-man o g set f h l s t m n walled a b =
    let same : s ≡ t = labels-apart o g walled.game s t l a.label b.label in
    same_Some m n (sym a.there ∙ ap (at (board_after o g)) same ∙ b.there)

either-limit : (b : Bool) (x : Limit) (so : Bool) → (b ≡ true → so ≡ false) → allows x so ≡ true → allows (cond b other x) so ≡ true
either-limit true x so told h = ap not (told refl)
either-limit false x so told h = h

-- an account that closes against a mark forces it
pub account-forces : (o : List Bool) (g : List Move) (S : Sketch) (set : List Bool) (zones : List (List Bool)) (p : PriceList) (i : ℕ) (fits : Fits o g S) → Walled o g set → IsForcedBy o S set zones p i → MayBeMarked o g S fits i
account-forces o g S set zones p i fits walled forced f s m there is = elim (cases_Bool (is_plain o g (fits.label i) m)) [
  | inl so ↦ so
  | inr otherwise ↦
      absurd (figures-fit o g S set p fits walled forced.prices forced.fixed (room_past set zones) (has-room o g S set fits walled zones forced.zones_are) (λ j h. cond (j == i) other (mark_limit h))
      (λ j h t n also its. either-limit (j == i) (mark_limit h) (is_plain o g (fits.label j) n)
      (λ here.
      let at_it : j ≡ i = eqb-true j i here in
      let same : n ≡ m = one-man o g set h f (fits.label j) t s n m walled its (subst (λ (k : ℕ). IsManOf o g f (fits.label k) s m) (sym at_it) is) in
      ap (λ (k : ℕ). is_plain o g (fits.label k) n) at_it ∙ ap (is_plain o g (fits.label i)) same ∙ otherwise)
      (mark-allows h.marked (is_plain o g (fits.label j) n) its.mark)) forced.above)
]
