-- A man who is put back by hand.
use Rattle.std.proofs.Common.{◌≡◌, ◌≢◌, ℕ, Bool, true, false, cond, length, set, inl, inr, refl, ap, sym, ◌∙◌, arith}
use Rattle.std.proofs.lemmas.Bool.{both_ways, cases_Bool, cond-true, cond-false}
use Rattle.std.proofs.lemmas.List.{length-set, get_or-set_same, get_or-set_other, set-set, set_comm, set-get_or}
use Rattle.std.specs.Prelude.{Option, Some, None}
use Rattle.board_base.specs.Board.{Places, at, is_a, is_of, same_kind}
use Rattle.board_base.specs.Carry.{carry}
use Rattle.board_base.specs.Play.{castling, castling_from, goes_en_passant, play}
use Rattle.board_base.specs.Parts.{played_as}
use Rattle.board_base.specs.declared.men.Man.{Man}
use Rattle.board_base.specs.declared.men.Colour.{Colour}
use Rattle.board_base.specs.declared.men.Kind.{Kind}
use Rattle.board_base.specs.declared.men.Kind.TheVariants.{King}
use Rattle.board_base.specs.declared.moves.Move.{Move}
use Rattle.board_base.specs.declared.castles.Castle.{Castle}
use Rattle.castle_history.specs.TakenBack.{of_king, of_side}
use Rattle.unmove_gen.specs.Listed.{taking}
use Rattle.unmove_gen.specs.Plain.{IsPlain, put_back}
use Rattle.unmove_gen.specs.TakenBack.{captured_by, rook_back, taken_back, unpromoted}

pub apart : (board : Places) (c : Colour) (m : Move) → IsPlain board c m → m.from ≢ m.to
apart board c m p e = both_ways (is_of c (at board m.to)) (ap (λ (s : ℕ). is_of c (at board s)) (sym e) ∙ ap (is_of c) p.origin) p.own

pub at-target : (board : Places) (c : Colour) (m : Move) (taken : Option Man) → IsPlain board c m → at (put_back board m taken) m.to ≡ taken
at-target board c m taken p =
    let whole = p.whole in
    let to = p.to in
    get_or-set_same (set (set board m.to None) m.from (at board m.to)) m.to taken None (omega (arith, length-set (set board m.to None) m.from (at board m.to), length-set board m.to None))

pub at-origin : (board : Places) (c : Colour) (m : Move) (taken : Option Man) → IsPlain board c m → at (put_back board m taken) m.from ≡ at board m.to
at-origin board c m taken p =
    let whole = p.whole in
    let from = p.from in
    get_or-set_other (set (set board m.to None) m.from (at board m.to)) m.to m.from taken None (apart board c m p)
    ∙ get_or-set_same (set board m.to None) m.from (at board m.to) None (omega (arith, length-set board m.to None))

pub at-other : (board : Places) (m : Move) (taken : Option Man) (s : ℕ) → s ≢ m.from → s ≢ m.to → at (put_back board m taken) s ≡ at board s
at-other board m taken s f t =
    get_or-set_other (set (set board m.to None) m.from (at board m.to)) m.to s taken None t
    ∙ get_or-set_other (set board m.to None) m.from s (at board m.to) None f
    ∙ get_or-set_other board m.to s None None t

pub length-put : (board : Places) (m : Move) (taken : Option Man) → length (put_back board m taken) ≡ length board
length-put board m taken =
    length-set (set (set board m.to None) m.from (at board m.to)) m.to taken ∙ length-set (set board m.to None) m.from (at board m.to) ∙ length-set board m.to None

-- he goes forth again
pub forth : (board : Places) (c : Colour) (m : Move) (taken : Option Man) → IsPlain board c m → carry (put_back board m taken) m.from m.to m.promo ≡ board
forth board c m taken p =
    let a : m.from ≢ m.to = apart board c m p in
    let man : Option Man = at board m.to in
    let back : Places = set (set board m.to None) m.from man in
    ap (carry (put_back board m taken) m.from m.to) p.promo
    ∙ ap (set (set (put_back board m taken) m.from None) m.to) (at-origin board c m taken p)
    ∙ ap (λ (b : Places). set b m.to man) (set_comm back m.to m.from taken None (λ e. a (sym e)))
    ∙ set-set (set back m.from None) m.to taken man
    ∙ ap (λ (b : Places). set b m.to man) (set-set (set board m.to None) m.from man None)
    ∙ set_comm (set board m.to None) m.from m.to None man a
    ∙ ap (λ (b : Places). set b m.from None) (set-set board m.to None man ∙ set-get_or board m.to None)
    ∙ ap (set board m.from) (sym p.origin)
    ∙ set-get_or board m.from None

pub no-castling : (board : Places) (c : Colour) (m : Move) (taken : Option Man) → IsPlain board c m → castling (put_back board m taken) m ≡ None
no-castling board c m taken p = ap (λ (place : Option Man). cond (is_a King place) (castling_from m.from m.to) None) (at-origin board c m taken p) ∙ p.king

as-played : (board : Places) (m : Move) (b : Bool) → b ≡ false → goes_en_passant board m ≡ b → played_as board m None ≡ carry board m.from m.to m.promo
as-played board m true off e = cc
as-played board m false off e = cond-false (goes_en_passant board m) _ (carry board m.from m.to m.promo) e

pub play-forth : (board : Places) (c : Colour) (m : Move) (taken : Option Man) → IsPlain board c m → goes_en_passant (put_back board m taken) m ≡ false → play (put_back board m taken) m ≡ board
unfolding play
play-forth board c m taken p plain =
    let before : Places = put_back board m taken in
    ap (played_as before m) (no-castling board c m taken p) ∙ as-played before m (goes_en_passant before m) plain refl ∙ forth board c m taken p

side-none : (c : Colour) (o : Option Castle) → o ≡ None → of_side c o ≡ None
side-none c o e = ap (of_side c) e

king-none : (place : Option Man) (o : Option Castle) → cond (is_a King place) o None ≡ None → of_king place o ≡ None
king-none None o h = refl
king-none (Some man) o h = elim (cases_Bool (same_kind King man.kind)) [
  | inl king ↦ cond-true (same_kind King man.kind) (of_side man.colour o) None king ∙ side-none man.colour o (sym (cond-true (same_kind King man.kind) o None king) ∙ h)
  | inr other ↦ cond-false (same_kind King man.kind) (of_side man.colour o) None other
]

-- taking back is putting back by hand
pub before-is : (board : Places) (c : Colour) (m : Move) (captured : Option Kind) → IsPlain board c m → taken_back board (taking m captured) ≡ put_back board m (captured_by (at board m.to) captured)
unfolding taken_back
before-is board c m captured p =
    let taken : Option Man = captured_by (at board m.to) captured in
    ap (λ (o : Option Castle). set (set (set (rook_back o board) m.to None) m.from (unpromoted m.promo (at (rook_back o board) m.to))) m.to taken) (king-none (at board m.to) (castling_from m.from m.to) p.king)
    ∙ ap (λ (k : Option Kind). set (set (set board m.to None) m.from (unpromoted k (at board m.to))) m.to taken) p.promo
