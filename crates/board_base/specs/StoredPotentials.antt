-- Inner: no public clause cites this file.
-- How potentials are stored.
use Rattle.std.specs.Prelude.{◌≡◌, ◌-◌, ◌≤◌, ◌++◌, length, take, drop, replicate, pos}
use Rattle.std.specs.List.{All}
use Rattle.std.proofs.Common.{arith}
use Rattle.std.proofs.lemmas.List.{length-take-le}
use Rattle.general_lemmas.proofs.Rows.{filled-again}
use Rattle.board_base.specs.declared.potentials.Potentials.TheInside.{Inside}
use Rattle.board_base.specs.Potentials.{Duals, IsWithinLimit}

-- what the fields hold: zeros fill the places of pawns that there aren't
pub record IsStored (a : Inside) : Type 0 where
  pub count : a.count ≤ 8
  pub pawns : length a.pawns ≡ 8
  pub files : length a.files ≡ 8
  pub rest : drop a.count a.pawns ≡ replicate (8 - a.count) (pos 0)
  pub u_within : All IsWithinLimit (take a.count a.pawns)
  pub v_within : All IsWithinLimit a.files

-- the potentials that the fields hold
abbrev pub seen : Inside → Duals
seen a = record { u = take a.count a.pawns; v = a.files }

-- the fields that hold these potentials
abbrev pub stored : Duals → Inside
stored d = record { pawns = d.u ++ replicate (8 - length d.u) (pos 0); count = length d.u; files = d.v }

-- the fields can be told from the potentials that they hold
pub stored-seen : (a : Inside) → IsStored a → stored (seen a) ≡ a
stored-seen a h =
    let count : length (take a.count a.pawns) ≡ a.count = length-take-le a.count a.pawns (omega (arith, h.count, h.pawns)) in
    let pawns : take a.count a.pawns ++ replicate (8 - length (take a.count a.pawns)) (pos 0) ≡ a.pawns = filled-again (pos 0) 8 a.count a.pawns h.count h.pawns h.rest in
    λ i. record { pawns = pawns i; count = count i; files = a.files }
