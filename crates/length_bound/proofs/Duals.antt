-- What is stored of potentials of men and homes.
use Rattle.std.proofs.Common.{◌≡◌, ℕ, ◌+◌, ◌-◌, List, ◌++◌, length, drop, replicate, pos, sym, ap, ◌∙◌, subst, arith, length-append}
use Rattle.std.specs.Prelude.{ℤ}
use Rattle.std.specs.List.{All}
use Rattle.std.proofs.Math.Seq.{take-append_seam, drop-append_seam}
use Rattle.std.proofs.lemmas.List.{drop-replicate, length-replicate}
use Rattle.board_base.specs.Potentials.{IsWithinLimit, duals}
use Rattle.length_bound.specs.ManDuals.{AreManPotentials}
use Rattle.length_bound.specs.StoredManPotentials.{IsStored}

-- the numbers of the men, written before zeros
pub IsStored-known : (u v xs : List ℤ) → xs ≡ u → AreManPotentials (duals u v) → IsStored (record { men = xs ++ drop (length u) (replicate 16 (pos 0)); count = length u; homes = v })
IsStored-known u v xs e h =
    let zeros : drop (length u) (replicate 16 (pos 0)) ≡ replicate (16 - length u) (pos 0) = drop-replicate (length u) 16 (pos 0) in
    let P : List ℤ → Type 0 = λ ys. IsStored (record { men = ys ++ drop (length u) (replicate 16 (pos 0)); count = length u; homes = v }) in
    subst P (sym e) (record {
      count = h.men;
      men = length-append u (drop (length u) (replicate 16 (pos 0))) ∙ ap (λ (l : List ℤ). length u + length l) zeros ∙ ap (λ (n : ℕ). length u + n) (length-replicate (16 - length u) (pos 0)) ∙ omega (arith, h.men);
      homes = h.homes;
      rest = drop-append_seam u (drop (length u) (replicate 16 (pos 0))) ∙ zeros;
      u_within = let Q : List ℤ → Type 0 = λ l. All IsWithinLimit l in subst Q (sym (take-append_seam u (drop (length u) (replicate 16 (pos 0))))) h.u_within;
      v_within = h.v_within;
    })
