-- The unmoves of an open line have texts, and so have the moves of the game that it is.
use Rattle.std.proofs.Common.{ℕ, zero, suc, ◌-◌, ◌<◌, List, [], ◌∷◌, length, map, reverse, sym, subst, arith}
use Rattle.std.specs.Prelude.{IsTrue}
use Rattle.std.specs.List.{All, Contains}
use Rattle.std.proofs.lemmas.List.{get_or-reverse, length-reverse}
use Rattle.std.proofs.lemmas.List.Elements.{All-cons, All-map, All-nil, All-same, All-weaker, Contains-append_right}
use Rattle.board_base.specs.Texts.{can_capture, can_promote}
use Rattle.board_base.specs.declared.moves.Move.{Move}
use Rattle.board_base.specs.declared.unmoves.Unmove.{Unmove}
use Rattle.general_lemmas.proofs.Lists.{contains-first}
use Rattle.query_base.specs.Asked.{Asked}
use Rattle.query_base.specs.Targets.{target}
use Rattle.query_base.specs.declared.claims.Claim.{Claim}
use Rattle.unmove_gen.specs.Listed.{unmoves}
use Rattle.unmove_gen.specs.Predecessor.{predecessor}
use Rattle.position_report.specs.Lines.{IsFirstNot, IsFirstOpen, forwards}
use Rattle.position_report.specs.Unsettled.{IsOpenLine, StaysUnsettled}
use Rattle.command_answers.specs.Told.{IsSpelled}

-- each unmove of a query has a text
abbrev pub AreSpelled : Type 0
AreSpelled = (q : Asked) (u : Unmove) → Contains (unmoves q) u → IsSpelled u

pub spelled : ((q : Asked) (u : Unmove) → Contains (unmoves q) u → IsTrue (can_promote u.mv.promo)) → ((q : Asked) (u : Unmove) → Contains (unmoves q) u → IsTrue (can_capture u.mv.promo u.captured u.ep)) → AreSpelled
spelled promotion capture q u has = record { promotion = promotion q u has; capture = capture q u has }

first_not-listed : (P : Unmove → Type 0) (us : List Unmove) (u : Unmove) → IsFirstNot P us u → Contains us u
first_not-listed P us u first = subst (λ (l : List Unmove). Contains l u) (sym first.2) (Contains-append_right first.0 (u ∷ first.1) u (contains-first u first.1))

pub first_open-spelled : AreSpelled → (depth : ℕ) (q : Asked) (ancestors : List Asked) (line : List Unmove) → IsFirstOpen q depth ancestors line → All IsSpelled line
first_open-spelled law zero q ancestors line first = All-same IsSpelled line [] first (All-nil IsSpelled)
first_open-spelled law (suc depth) q ancestors [] first = All-nil IsSpelled
first_open-spelled law (suc depth) q ancestors (u ∷ line) first =
    All-cons IsSpelled u line (law q u (first_not-listed _ (unmoves q) u first.1)) (first_open-spelled law depth (predecessor q u) (q ∷ ancestors) line first.2)

open_line-spelled : AreSpelled → (line : List Unmove) (q : Asked) (depth : ℕ) (ancestors : List Asked) → IsOpenLine q depth ancestors line → All IsSpelled line
open_line-spelled law [] q depth ancestors o = All-nil IsSpelled
open_line-spelled law (u ∷ line) q zero ancestors o = absurd o
open_line-spelled law (u ∷ line) q (suc depth) ancestors o =
    All-cons IsSpelled u line (law q u o.2) (open_line-spelled law line (predecessor q u) depth (q ∷ ancestors) o.3)

All-reverse : {A : Type 0} (P : A → Type 0) (xs : List A) → All P xs → All P (reverse xs)
All-reverse {A} P xs all k d inside =
    let within : k < length xs = omega (arith, length-reverse xs) in
    subst P (sym (get_or-reverse xs k d within)) (all (length xs - 1 - k) d (omega arith))

pub forwards-spelled : (line : List Unmove) → All IsSpelled line → All (λ m. IsTrue (can_promote m.promo)) (forwards line)
forwards-spelled line all =
    let promotes : Move → Type 0 = λ m. IsTrue (can_promote m.promo) in
    All-reverse promotes (map (λ u. u.mv) line) (All-map promotes (λ (u : Unmove). u.mv) line (All-weaker IsSpelled (λ u. promotes u.mv) (λ u s. s.promotion) line all))

pub unsettled-spelled : AreSpelled → (line : List Unmove) (q : Asked) (depth : ℕ) → StaysUnsettled line q depth → All IsSpelled line
unsettled-spelled law line q depth h = open_line-spelled law line q depth [] h.open_line
