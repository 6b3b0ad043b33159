-- Each unmove of a query has a text.
use Rattle.std.proofs.Common.{◌≡◌, ℕ, zero, suc, Bool, true, false, get_or, refl, sym, subst}
use Rattle.std.proofs.lemmas.Bool.{and_parts}
use Rattle.std.proofs.lemmas.List.Elements.{All-contains, All-filter}
use Rattle.std.proofs.lemmas.Option.{same_Some, slice_get-get_or}
use Rattle.std.specs.Prelude.{Option, Some, None, slice_get}
use Rattle.std.specs.Bool.{beq}
use Rattle.std.specs.List.{All, Contains}
use Rattle.board_base.specs.Board.{same_kind}
use Rattle.board_base.specs.Texts.{can_capture, can_promote}
use Rattle.board_base.specs.declared.men.Kind.{Kind}
use Rattle.board_base.specs.declared.men.Kind.TheVariants.{Pawn, Knight, Bishop, Rook, Queen, King}
use Rattle.board_base.specs.declared.moves.Move.{Move}
use Rattle.board_base.specs.declared.unmoves.Unmove.{Unmove}
use Rattle.query_base.specs.Asked.{Asked}
use Rattle.play_rules.specs.Listed.{promotions}
use Rattle.unmove_gen.specs.Listed.{answered, before, candidates, is_listed, mover, unmoves, unmoves_of}
use Rattle.unmove_gen.proofs.Marks.{captures}
use Rattle.unmove_gen.proofs.Members.{Fits, list-passes}
use Rattle.unmove_gen.proofs.Numbered.{numbered}
use Rattle.unmove_gen.proofs.Parts.{parts}

promotion-spelled : (p : ℕ) (promo : Option Kind) → slice_get promotions p ≡ Some promo → can_promote promo ≡ true
promotion-spelled zero promo h = subst (λ (o : Option Kind). can_promote o ≡ true) (same_Some _ _ h) refl
promotion-spelled (suc zero) promo h = subst (λ (o : Option Kind). can_promote o ≡ true) (same_Some _ _ h) refl
promotion-spelled (suc (suc zero)) promo h = subst (λ (o : Option Kind). can_promote o ≡ true) (same_Some _ _ h) refl
promotion-spelled (suc (suc (suc zero))) promo h = subst (λ (o : Option Kind). can_promote o ≡ true) (same_Some _ _ h) refl
promotion-spelled (suc (suc (suc (suc zero)))) promo h = subst (λ (o : Option Kind). can_promote o ≡ true) (same_Some _ _ h) refl
promotion-spelled (suc (suc (suc (suc (suc p))))) promo h = cc

capture-fits : (m : Move) (r : ℕ) (u : Unmove) → slice_get (unmoves_of m) r ≡ Some u → Fits u.captured u.ep
unfolding Fits
capture-fits m zero u h = subst (λ (v : Unmove). Fits v.captured v.ep) (same_Some _ _ h) tt
capture-fits m (suc zero) u h = subst (λ (v : Unmove). Fits v.captured v.ep) (same_Some _ _ h) refl
capture-fits m (suc (suc zero)) u h = subst (λ (v : Unmove). Fits v.captured v.ep) (same_Some _ _ h) refl
capture-fits m (suc (suc (suc zero))) u h = subst (λ (v : Unmove). Fits v.captured v.ep) (same_Some _ _ h) refl
capture-fits m (suc (suc (suc (suc zero)))) u h = subst (λ (v : Unmove). Fits v.captured v.ep) (same_Some _ _ h) refl
capture-fits m (suc (suc (suc (suc (suc zero))))) u h = subst (λ (v : Unmove). Fits v.captured v.ep) (same_Some _ _ h) refl
capture-fits m (suc (suc (suc (suc (suc (suc zero)))))) u h = subst (λ (v : Unmove). Fits v.captured v.ep) (same_Some _ _ h) refl
capture-fits m (suc (suc (suc (suc (suc (suc (suc r))))))) u h = cc

-- what is captured by a promoted pawn or another man
capture-spelled : (promo : Option Kind) (k : Kind) → same_kind King k ≡ false → can_capture promo (Some k) false ≡ true
capture-spelled promo Pawn h = elim promo as (λ o. can_capture o (Some Pawn) false ≡ true) [ None ↦ refl | Some j ↦ refl ]
capture-spelled promo Knight h = elim promo as (λ o. can_capture o (Some Knight) false ≡ true) [ None ↦ refl | Some j ↦ refl ]
capture-spelled promo Bishop h = elim promo as (λ o. can_capture o (Some Bishop) false ≡ true) [ None ↦ refl | Some j ↦ refl ]
capture-spelled promo Rook h = elim promo as (λ o. can_capture o (Some Rook) false ≡ true) [ None ↦ refl | Some j ↦ refl ]
capture-spelled promo Queen h = elim promo as (λ o. can_capture o (Some Queen) false ≡ true) [ None ↦ refl | Some j ↦ refl ]
capture-spelled promo King h = cc

spelled : (promo captured : Option Kind) (ep : Bool) → Fits captured ep → (ep ≡ true → promo ≡ None) → can_capture promo captured ep ≡ true
unfolding Fits
spelled promo captured true fits none =
    subst (λ (o : Option Kind). can_capture o captured true ≡ true) (sym (none refl)) (subst (λ (o : Option Kind). can_capture None o true ≡ true) (sym fits) refl)
spelled promo None false fits none = elim promo as (λ o. can_capture o None false ≡ true) [ None ↦ refl | Some j ↦ refl ]
spelled promo (Some k) false fits none = capture-spelled promo k fits

of-candidates : (P : Unmove → Type 0) → ((n : ℕ) (u : Unmove) → slice_get candidates n ≡ Some u → P u) → (q : Asked) (u : Unmove) → Contains (unmoves q) u → P u
unfolding unmoves
of-candidates P each q u has =
    let all : All P candidates = λ k d inside. each k (get_or candidates k d) (slice_get-get_or candidates k d inside) in
    All-contains P (unmoves q) u (All-filter (is_listed q) P candidates all) has

pub promotions_spelled : (q : Asked) (u : Unmove) → Contains (unmoves q) u → can_promote u.mv.promo ≡ true
promotions_spelled = of-candidates (λ u. can_promote u.mv.promo ≡ true) (λ n u here. let k = numbered n u here in promotion-spelled k.promotion u.mv.promo k.promo)

same-mark : (a b : Bool) → beq a b ≡ true → a ≡ true → b ≡ true
same-mark true true h e = refl
same-mark true false h e = cc
same-mark false b h e = cc

pub captures_spelled : (q : Asked) (u : Unmove) → Contains (unmoves q) u → can_capture u.mv.promo u.captured u.ep ≡ true
captures_spelled q u has =
    let fits : Fits u.captured u.ep = of-candidates (λ v. Fits v.captured v.ep) (λ n v here. let k = numbered n v here in capture-fits v.mv k.capture v k.taken) q u has in
    let p = parts q u (list-passes q u has) in
    spelled u.mv.promo u.captured u.ep fits (λ ep. (captures (before q u) (mover q) (answered u (mover q)) u.mv (same-mark u.ep _ (and_parts _ _ p.marked).0 ep)).no_promo)
