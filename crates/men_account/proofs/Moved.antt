-- Where what stands on a square after a move stood before it.
use Rattle.std.proofs.Common.{◌≡◌, ℕ, ◌<◌, ◌==◌, Bool, true, false, cond, ◌&&◌, List, length, set, get_or, refl, ap, sym, ◌∙◌, arith}
use Rattle.std.proofs.lemmas.Bool.{eqb-true, eqb-false}
use Rattle.std.proofs.lemmas.List.{length-set, get_or-set_same, get_or-set_other}
use Rattle.std.proofs.lemmas.Option.{same_Some}
use Rattle.std.specs.Prelude.{Option, Some, None}
use Rattle.general_lemmas.proofs.Options.{unless}
use Rattle.board_base.specs.Play.{carried, moved, rook_home, crossed, en_passant_victim}
use Rattle.board_base.specs.Texts.{◌>>=◌}
use Rattle.board_base.specs.declared.moves.Move.{Move}
use Rattle.board_base.specs.declared.castles.Castle.{Castle}
use Rattle.board_base.proofs.CastleSquares.{crossed-within, rook_home-within}

-- what stands on a square, if one is given
abbrev pub on_square : {A : Type 0} → List (Option A) → Option ℕ → Option A
on_square places None = None
on_square places (Some s) = get_or places s None

-- the square on which what comes to s stood, where one man goes from a square to another
abbrev pub carried_from : ℕ → ℕ → ℕ → Option ℕ
carried_from from to s = cond (s == to) (Some from) (cond (s == from) None (Some s))

-- the square on which what comes to s by the move stood before it
abbrev pub moved_from : Move → Option Castle → Bool → ℕ → Option ℕ
moved_from m (Some x) en_passant s = carried_from (rook_home x) (crossed x) s >>= carried_from m.from m.to
moved_from m None en_passant s = cond (en_passant && (s == en_passant_victim m)) None (carried_from m.from m.to s)

-- what comes to the target becomes something else, unless the king castles
abbrev pub arrived : {A : Type 0} → (Option A → Option A) → Option Castle → Bool → Option A → Option A
arrived become (Some x) at_target place = place
arrived become None true place = become place
arrived become None false place = place

length-carried : {A : Type 0} (become : Option A → Option A) (places : List (Option A)) (from to : ℕ) → length (carried become places from to) ≡ length places
length-carried become places from to = length-set (set places from None) to _ ∙ length-set places from None

pub length-moved : {A : Type 0} (become : Option A → Option A) (m : Move) (castle : Option Castle) (en_passant : Bool) (places : List (Option A)) → length (moved become m castle en_passant places) ≡ length places
length-moved become m (Some x) en_passant places = length-carried (λ place. place) _ (rook_home x) (crossed x) ∙ length-carried (λ place. place) places m.from m.to
length-moved become m None true places = length-set _ (en_passant_victim m) None ∙ length-carried become places m.from m.to
length-moved become m None false places = length-carried become places m.from m.to

-- the squares are given with whether they are the target and the origin
carried-at : {A : Type 0} (become : Option A → Option A) (places : List (Option A)) (from to s : ℕ) (on_to on_from : Bool) → from < length places → to < length places → (s == to) ≡ on_to → (s == from) ≡ on_from → get_or (carried become places from to) s None ≡ arrived become None on_to (on_square places (cond on_to (Some from) (cond on_from None (Some s))))
carried-at become places from to s true on_from f t e1 e2 =
    let inside : to < length (set places from None) = omega (arith, length-set places from None) in
    ap (λ i. get_or (carried become places from to) i None) (eqb-true s to e1) ∙ get_or-set_same (set places from None) to (become (get_or places from None)) None inside
carried-at become places from to s false true f t e1 e2 =
    get_or-set_other (set places from None) to s (become (get_or places from None)) None (eqb-false s to e1) ∙ ap (λ i. get_or (set places from None) i None) (eqb-true s from e2) ∙ get_or-set_same places from None None f
carried-at become places from to s false false f t e1 e2 =
    get_or-set_other (set places from None) to s (become (get_or places from None)) None (eqb-false s to e1) ∙ get_or-set_other places from s None None (eqb-false s from e2)

at-carried : {A : Type 0} (become : Option A → Option A) (places : List (Option A)) (from to s : ℕ) → from < length places → to < length places → get_or (carried become places from to) s None ≡ arrived become None (s == to) (on_square places (carried_from from to s))
at-carried become places from to s f t = carried-at become places from to s (s == to) (s == from) f t refl refl

-- nothing becomes something else
unchanged : {A : Type 0} (castle : Option Castle) (b : Bool) (place : Option A) → arrived (λ p. p) castle b place ≡ place
unchanged (Some x) b place = refl
unchanged None true place = refl
unchanged None false place = refl

on-carried : {A : Type 0} (places : List (Option A)) (from to : ℕ) (o : Option ℕ) → from < length places → to < length places → on_square (carried (λ p. p) places from to) o ≡ on_square places (o >>= carried_from from to)
on-carried places from to None f t = refl
on-carried places from to (Some s) f t = at-carried (λ p. p) places from to s f t ∙ unchanged None (s == to) _

nothing-arrives : {A : Type 0} (become : Option A → Option A) (b : Bool) → become None ≡ None → arrived become None b None ≡ None
nothing-arrives become true none = none
nothing-arrives become false none = refl

-- a capture en passant empties a square
taken-at : {A : Type 0} (become : Option A → Option A) (places : List (Option A)) (from to victim s : ℕ) (b : Bool) → become None ≡ None → from < length places → to < length places → victim < length places → (s == victim) ≡ b → get_or (set (carried become places from to) victim None) s None ≡ arrived become None (s == to) (on_square places (cond b None (carried_from from to s)))
taken-at become places from to victim s true none f t v e =
    let inside : victim < length (carried become places from to) = omega (arith, length-carried become places from to) in
    ap (λ i. get_or (set (carried become places from to) victim None) i None) (eqb-true s victim e) ∙ get_or-set_same (carried become places from to) victim None None inside ∙ sym (nothing-arrives become (s == to) none)
taken-at become places from to victim s false none f t v e =
    get_or-set_other (carried become places from to) victim s None None (eqb-false s victim e) ∙ at-carried become places from to s f t

victim-within : (m : Move) → m.from < 64 → en_passant_victim m < 64
victim-within m f = omega arith

-- What stands on a square after the move came from the square that `moved_from` tells, and became something else at most at the
-- target. The places may hold men or labels.
pub at-moved : {A : Type 0} (become : Option A → Option A) (m : Move) (castle : Option Castle) (en_passant : Bool) (places : List (Option A)) (s : ℕ) → become None ≡ None → length places ≡ 64 → m.from < 64 → m.to < 64 → get_or (moved become m castle en_passant places) s None ≡ arrived become castle (s == m.to) (on_square places (moved_from m castle en_passant s))
at-moved become m (Some x) en_passant places s none len f t =
    let first : List (Option _) = carried (λ p. p) places m.from m.to in
    let len' : length first ≡ 64 = length-carried (λ p. p) places m.from m.to ∙ len in
    let home : rook_home x < length first = rw len' (rook_home-within x) in
    let over : crossed x < length first = rw len' (crossed-within x) in
    at-carried (λ p. p) first (rook_home x) (crossed x) s home over ∙ unchanged None (s == crossed x) _ ∙ on-carried places m.from m.to (carried_from (rook_home x) (crossed x) s) (omega arith) (omega arith)
at-moved become m None true places s none len f t =
    taken-at become places m.from m.to (en_passant_victim m) s (s == en_passant_victim m) none (omega arith) (omega arith) (omega (arith, victim-within m f)) refl
at-moved become m None false places s none len f t = at-carried become places m.from m.to s (omega arith) (omega arith)

-- the same of labels, which become nothing else
pub label-moved : {A : Type 0} (m : Move) (castle : Option Castle) (en_passant : Bool) (labels : List (Option A)) (s : ℕ) → length labels ≡ 64 → m.from < 64 → m.to < 64 → get_or (moved (λ label. label) m castle en_passant labels) s None ≡ on_square labels (moved_from m castle en_passant s)
label-moved m castle en_passant labels s len f t = at-moved (λ label. label) m castle en_passant labels s refl len f t ∙ unchanged castle (s == m.to) _

-- two squares whose men stood on one square are the same
carried-apart : (from to s t u : ℕ) (a b c d : Bool) → (s == to) ≡ a → (s == from) ≡ b → (t == to) ≡ c → (t == from) ≡ d → cond a (Some from) (cond b None (Some s)) ≡ Some u → cond c (Some from) (cond d None (Some t)) ≡ Some u → s ≡ t
carried-apart from to s t u true b true d e1 e2 e3 e4 x y = eqb-true s to e1 ∙ sym (eqb-true t to e3)
carried-apart from to s t u true b false false e1 e2 e3 e4 x y = absurd (eqb-false t from e4 (same_Some _ _ y ∙ sym (same_Some _ _ x)))
carried-apart from to s t u true b false true e1 e2 e3 e4 x y = cc
carried-apart from to s t u false false true d e1 e2 e3 e4 x y = absurd (eqb-false s from e2 (same_Some _ _ x ∙ sym (same_Some _ _ y)))
carried-apart from to s t u false false false false e1 e2 e3 e4 x y = same_Some _ _ x ∙ sym (same_Some _ _ y)
carried-apart from to s t u false false false true e1 e2 e3 e4 x y = cc
carried-apart from to s t u false true c d e1 e2 e3 e4 x y = cc

carried_from-apart : (from to s t u : ℕ) → carried_from from to s ≡ Some u → carried_from from to t ≡ Some u → s ≡ t
carried_from-apart from to s t u = carried-apart from to s t u (s == to) (s == from) (t == to) (t == from) refl refl refl refl

then-apart : (from to : ℕ) (a b : Option ℕ) (u : ℕ) → (a >>= carried_from from to) ≡ Some u → (b >>= carried_from from to) ≡ Some u → a ≡ b
then-apart from to None b u x y = cc
then-apart from to (Some s) None u x y = cc
then-apart from to (Some s) (Some t) u x y = ap Some (carried_from-apart from to s t u x y)

some-then : (from to : ℕ) (a : Option ℕ) (u : ℕ) → (a >>= carried_from from to) ≡ Some u → (v : ℕ) × (a ≡ Some v)
some-then from to None u x = cc
some-then from to (Some s) u x = (s, refl)

-- no two squares have what stood on one square
pub moved_from-apart : (m : Move) (castle : Option Castle) (en_passant : Bool) (s t u : ℕ) → moved_from m castle en_passant s ≡ Some u → moved_from m castle en_passant t ≡ Some u → s ≡ t
moved_from-apart m (Some x) en_passant s t u a b =
    let first = some-then m.from m.to (carried_from (rook_home x) (crossed x) s) u a in
    let same = then-apart m.from m.to (carried_from (rook_home x) (crossed x) s) (carried_from (rook_home x) (crossed x) t) u a b in
    carried_from-apart (rook_home x) (crossed x) s t first.0 first.1 (sym same ∙ first.1)
moved_from-apart m None en_passant s t u a b =
    carried_from-apart m.from m.to s t u (unless (en_passant && (s == en_passant_victim m)) _ u a).1 (unless (en_passant && (t == en_passant_victim m)) _ u b).1
