-- Where a candidate stands among the ways.
use Rattle.std.proofs.Common.{◌≡◌, ℕ, ◌<◌, true, refl, sym, ap, ◌∙◌, subst, arith}
use Rattle.std.proofs.lemmas.List.Elements.{All-contains, All-from_recursion}
use Rattle.general_lemmas.proofs.Lists.{contains-filter, flat_map-contains, map-contains}
use Rattle.general_lemmas.proofs.Ranges.{range-contains}
use Rattle.std.specs.List.{All, Contains, filter, range_with_len}
use Rattle.board_base.specs.declared.moves.Move.{Move}
use Rattle.board_base.specs.declared.unmoves.Unmove.{Unmove}
use Rattle.play_rules.specs.Listed.{move_of, moves_between, promotions}
use Rattle.query_base.specs.Asked.{Asked}
use Rattle.unmove_gen.specs.Listed.{candidates, unmoves_between, unmoves_of, unmoves_to}
use Rattle.retraction_bars.specs.Ways.{is_way}

same_moves : (m : Move) → All (λ (u : Unmove). u.mv ≡ m) (unmoves_of m)
same_moves m = All-from_recursion (λ (u : Unmove). u.mv ≡ m) (unmoves_of m) (refl, (refl, (refl, (refl, (refl, (refl, (refl, tt)))))))

pub record Ends (u : Unmove) (from to : ℕ) : Type 0 where
  pub from_is : u.mv.from ≡ from
  pub to_is : u.mv.to ≡ to

ends_of : (to from : ℕ) (u : Unmove) → Contains (unmoves_between to from) u → Ends u from to
unfolding moves_between
ends_of to from u h =
    let m = flat_map-contains unmoves_of (moves_between from to) u h in
    let p = map-contains (move_of from to) promotions m.0 m.1 in
    let same : u.mv ≡ m.0 = All-contains (λ (v : Unmove). v.mv ≡ m.0) (unmoves_of m.0) u (same_moves m.0) m.2 in
    let e : u.mv ≡ move_of from to p.0 = same ∙ sym p.2 in
    record { from_is = ap (λ (x : Move). x.from) e; to_is = ap (λ (x : Move). x.to) e }

pub record Placed (u : Unmove) : Type 0 where
  pub from_low : u.mv.from < 64
  pub to_low : u.mv.to < 64
  pub there : Contains (unmoves_to u.mv.to) u

-- a candidate is among those to its target
pub placed : (u : Unmove) → Contains candidates u → Placed u
unfolding candidates
placed u h =
    let t = flat_map-contains unmoves_to (range_with_len 0 64) u h in
    let o = flat_map-contains (unmoves_between t.0) (range_with_len 0 64) u t.2 in
    let ends = ends_of t.0 o.0 u o.2 in
    let low = (range-contains 0 64 t.0 t.1).1 in
    let near = (range-contains 0 64 o.0 o.1).1 in
    record {
      from_low = omega (arith, ends.from_is);
      to_low = omega (arith, ends.to_is);
      there = subst (λ (n : ℕ). Contains (unmoves_to n) u) (sym ends.to_is) t.2;
    }

-- a way is among the ways to its target
pub among : (q : Asked) (u : Unmove) → Contains candidates u → is_way q u ≡ true → Contains (filter (is_way q) (unmoves_to u.mv.to)) u
among q u h way = let p = placed u h in contains-filter (is_way q) (unmoves_to u.mv.to) u p.there way
