-- The ledger and the gates added up over the homes of both sides, where men may earn other prices than pawns pay.
use Rattle.std.proofs.Common.{◌≡◌, ◌≢◌, ℕ, ◌+◌, ◌*◌, ◌≤◌, Bool, true, List, length, arith}
use Rattle.std.specs.List.{AllPairs, Contains, range_with_len, sum_by}
use Rattle.board_base.specs.Board.{array_of, at, is_of, opponent}
use Rattle.board_base.specs.Game.{IsGame}
use Rattle.board_base.specs.declared.men.Colour.{Colour}
use Rattle.board_base.specs.declared.men.Colour.TheVariants.{White, Black}
use Rattle.board_base.specs.declared.moves.Move.{Move}
use Rattle.men_fates.specs.Deeds.{strikes}
use Rattle.men_ledger.specs.Files.{gates_passed}
use Rattle.men_ledger.specs.Ledger.{earned, paid, turnover}
use Rattle.men_ledger.proofs.Balance.{paid-in-all, earned-in-all}
use Rattle.men_ledger.proofs.Gates.{gates-most}
use Rattle.men_ledger.proofs.Closing.{pawn-of, side-sum}

added : (w b ew eb pw pb gw gb basew baseb most tw tb sw sb : ℕ) → w + ew ≤ basew + (pw + gw) → b + eb ≤ baseb + (pb + gb) → pw ≡ tw → eb ≡ sw → pb ≡ tb → ew ≡ sb → gw + gb ≤ most → w + b + (sw + sb) ≤ basew + baseb + most + (tw + tb)
added w b ew eb pw pb gw gb basew baseb most tw tb sw sb white black one other two another gates = omega arith

-- what is paid and what is earned are both told
pub costs-apart : (o : List Bool) (g : List Move) (base : ℕ) (pay earn : Colour → ℕ → ℕ) (gate : ℕ → ℕ) (homes : Colour → List ℕ) (cost : Colour → ℕ → ℕ) → IsGame o g → ((c : Colour) → AllPairs (λ h k. h ≢ k) (homes c)) → ((c : Colour) (h : ℕ) → is_of c (at (array_of o) h) ≡ true → Contains (homes c) h)
    → ((c : Colour) (h : ℕ) → Contains (homes c) h → cost c h + earned (earn (opponent c)) (strikes o g (opponent c)) h ≤ base + (paid (pay c) (strikes o g c) h + gates_passed gate o g c h))
    → sum_by (cost White) (homes White) + sum_by (cost Black) (homes Black) + (turnover (earn White) (strikes o g White) + turnover (earn Black) (strikes o g Black))
    ≤ base * length (homes White) + base * length (homes Black) + sum_by gate (range_with_len 0 64) + (turnover (pay White) (strikes o g White) + turnover (pay Black) (strikes o g Black))
costs-apart o g base pay earn gate homes cost game differ all each =
    let side : (c : Colour) → sum_by (cost c) (homes c) + sum_by (earned (earn (opponent c)) (strikes o g (opponent c))) (homes c) ≤ base * length (homes c) + (sum_by (paid (pay c) (strikes o g c)) (homes c) + sum_by (gates_passed gate o g c) (homes c)) =
    λ c. side-sum base (cost c) (paid (pay c) (strikes o g c)) (gates_passed gate o g c) (earned (earn (opponent c)) (strikes o g (opponent c))) (homes c) (each c) in
    let pays : (c : Colour) → sum_by (paid (pay c) (strikes o g c)) (homes c) ≡ turnover (pay c) (strikes o g c) =
    λ c. paid-in-all o g c (pay c) (homes c) game (differ c) (λ h pawn. all c h (pawn-of c o h pawn)) in
    let earns : (c : Colour) → sum_by (earned (earn c) (strikes o g c)) (homes (opponent c)) ≡ turnover (earn c) (strikes o g c) =
    λ c. earned-in-all o g c (earn c) (homes (opponent c)) game (differ (opponent c)) (all (opponent c)) in
    added _ _ _ _ _ _ _ _ _ _ _ (turnover (pay White) (strikes o g White)) (turnover (pay Black) (strikes o g Black)) (turnover (earn White) (strikes o g White)) (turnover (earn Black) (strikes o g Black))
    (side White) (side Black) (pays White) (earns White) (pays Black) (earns Black) (gates-most o g gate (homes White) (homes Black) game (differ White) (differ Black))
