-- Inner: no public clause cites this file.
-- How potentials of men and homes are stored.
use Rattle.std.specs.Prelude.{◌≡◌, ◌-◌, ◌≤◌, ◌++◌, length, take, drop, replicate, pos}
use Rattle.std.specs.List.{All}
use Rattle.std.proofs.Common.{arith}
use Rattle.std.proofs.lemmas.List.{length-take-le}
use Rattle.general_lemmas.proofs.Rows.{filled-again}
use Rattle.board_base.specs.Potentials.{Duals, IsWithinLimit}
use Rattle.length_bound.specs.declared.man_potentials.ManPotentials.TheInside.{Inside}

-- what the fields hold: zeros fill the places of men that there aren't
pub record IsStored (a : Inside) : Type 0 where
  pub count : a.count ≤ 16
  pub men : length a.men ≡ 16
  pub homes : length a.homes ≡ 16
  pub rest : drop a.count a.men ≡ replicate (16 - a.count) (pos 0)
  pub u_within : All IsWithinLimit (take a.count a.men)
  pub v_within : All IsWithinLimit a.homes

-- the potentials that the fields hold
abbrev pub seen : Inside → Duals
seen a = record { u = take a.count a.men; v = a.homes }

-- the fields that hold these potentials
abbrev pub stored : Duals → Inside
stored d = record { men = d.u ++ replicate (16 - length d.u) (pos 0); count = length d.u; homes = d.v }

-- the fields can be told from the potentials that they hold
pub stored-seen : (a : Inside) → IsStored a → stored (seen a) ≡ a
stored-seen a h =
    let count : length (take a.count a.men) ≡ a.count = length-take-le a.count a.men (omega (arith, h.count, h.men)) in
    let men : take a.count a.men ++ replicate (16 - length (take a.count a.men)) (pos 0) ≡ a.men = filled-again (pos 0) 16 a.count a.men h.count h.men h.rest in
    λ i. record { men = men i; count = count i; homes = a.homes }
