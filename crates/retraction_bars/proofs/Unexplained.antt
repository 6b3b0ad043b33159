-- Two checks that no move explains.
use Rattle.std.proofs.Common.{◌≡◌, ℕ, ◌+◌, ◌-◌, Bool, true, false, Option, Some, None, refl, subst, arith}
use Rattle.general_lemmas.proofs.Ranges.{contains-range}
use Rattle.std.specs.List.{Contains, filter, range_with_len}
use Rattle.play_rules.proofs.Kings.{find-passes}
use Rattle.board_base.specs.declared.unmoves.Unmove.{Unmove}
use Rattle.query_base.specs.Asked.{Asked}
use Rattle.unmove_gen.specs.Listed.{candidates, mover, unmoves_to}
use Rattle.retraction_bars.proofs.FirstBars.{each_passes}
use Rattle.retraction_bars.proofs.Places.{among, placed}
use Rattle.retraction_bars.specs.Bars.{gives_check}
use Rattle.retraction_bars.specs.Pairs.{bars_twice, checker_from, is_twice, is_twice_at, pair_from, pair_if, pair_of, pair_with}
use Rattle.retraction_bars.specs.Told.{AreUnexplained}
use Rattle.retraction_bars.specs.Ways.{is_way}
use Rattle.retraction_bars.specs.declared.pairs.Pair.{Pair}

checks : (q : Asked) (low s : ℕ) → checker_from q low ≡ Some s → gives_check q.board (mover q) s ≡ true
unfolding checker_from
checks q low s h = find-passes (gives_check q.board (mover q)) (range_with_len low (64 - low)) s h

twice : (q : Asked) (a b : ℕ) (u : Unmove) → is_twice q a b ≡ true → Contains candidates u → is_way q u ≡ true → bars_twice q a b u ≡ true
unfolding is_twice
twice q a b u h candidate way =
    let p = placed u candidate in
    let low = p.to_low in
    let here = each_passes (is_twice_at q a b) (range_with_len 0 64) u.mv.to h (contains-range 0 64 u.mv.to (omega arith) (omega arith)) in
    each_passes (bars_twice q a b) (filter (is_way q) (unmoves_to u.mv.to)) u here (among q u candidate way)

paired : (q : Asked) (a b : ℕ) (t : Bool) (p : Pair) → gives_check q.board (mover q) a ≡ true → gives_check q.board (mover q) b ≡ true → is_twice q a b ≡ t → pair_if t a b ≡ Some p → AreUnexplained q p
paired q a b false p first second e h = let no : None ≡ Some p = h in cc
paired q a b true p first second e h =
    let made : Pair = record { first = a; second = b } in
    let it : Some made ≡ Some p = h in
    let same : made ≡ p = cc in
    subst (AreUnexplained q) same (first, second, λ u candidate way. twice q a b u e candidate way)

with_second : (q : Asked) (a : ℕ) (o : Option ℕ) (p : Pair) → gives_check q.board (mover q) a ≡ true → checker_from q (a + 1) ≡ o → pair_with q a o ≡ Some p → AreUnexplained q p
with_second q a None p first e h = let no : None ≡ Some p = h in cc
with_second q a (Some b) p first e h = paired q a b (is_twice q a b) p first (checks q (a + 1) b e) refl h

with_first : (q : Asked) (o : Option ℕ) (p : Pair) → checker_from q 0 ≡ o → pair_from q o ≡ Some p → AreUnexplained q p
with_first q None p e h = let no : None ≡ Some p = h in cc
with_first q (Some a) p e h = with_second q a (checker_from q (a + 1)) p (checks q 0 a e) refl h

pub unexplained : (q : Asked) (p : Pair) → pair_of q ≡ Some p → AreUnexplained q p
unfolding pair_of
unexplained q p h = with_first q (checker_from q 0) p refl h
