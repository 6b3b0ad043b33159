-- What is known of potentials of men and homes that were read.
use Rattle.std.proofs.Common.{◌≡◌, ℕ, true, List, length, Some}
use Rattle.std.proofs.lemmas.Bool.{eq-eqb, eqb-true, le-leb, leb-true, and_from}
use Rattle.board_base.specs.Potentials.{Duals}
use Rattle.cert_text.specs.Arguments.{duals_of}
use Rattle.cert_text.specs.Writable.{are_near}
use Rattle.cert_text.proofs.NearNumbers.{all_near, all_within}
use Rattle.cert_text.proofs.WordTexts.{duals_read, near_parts}
use Rattle.length_bound.specs.ManDuals.{AreManPotentials}

pub duals_known : (text : List ℕ) (d : Duals) → duals_of 16 text ≡ Some d → AreManPotentials d
duals_known text d e =
    let n = near_parts 16 d (duals_read 16 text d e).near in
    record {
      men = leb-true (length d.u) 16 n.u_few;
      homes = eqb-true (length d.v) 16 n.v_size;
      u_within = all_within d.u n.u;
      v_within = all_within d.v n.v;
    }

pub duals_near : (d : Duals) → AreManPotentials d → are_near 16 d ≡ true
duals_near d p = and_from _ _ (and_from _ _ (and_from _ _ (le-leb (length d.u) 16 p.men) (eq-eqb (length d.v) 16 p.homes)) (all_near d.u p.u_within)) (all_near d.v p.v_within)
