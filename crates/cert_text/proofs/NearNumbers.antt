-- What is known of each potential, as a test and as a fact.
use Rattle.std.proofs.Common.{◌≡◌, ℕ, zero, suc, true, List, [], ◌∷◌, length, Some, refl, arith}
use Rattle.std.proofs.lemmas.Int.{ints}
use Rattle.std.specs.Prelude.{ℤ, pos, negsuc}
use Rattle.std.proofs.lemmas.Bool.{and_parts, and_from, eq-eqb, eqb-true, le-leb, leb-true}
use Rattle.std.specs.List.{All, list_all}
use Rattle.board_base.specs.Potentials.{ArePotentials, Duals, IsWithinLimit}
use Rattle.cert_text.specs.Arguments.{duals_of}
use Rattle.cert_text.specs.Writable.{are_near, is_near}
use Rattle.cert_text.proofs.WordTexts.{duals_read, near_parts}

pub within : (x : ℤ) → is_near x ≡ true → IsWithinLimit x
within (pos n) near = let few = leb-true n 64 near in (omega (arith, ints), omega (arith, ints))
within (negsuc n) near = let few = leb-true (suc n) 64 near in (omega (arith, ints), omega (arith, ints))

near : (x : ℤ) → IsWithinLimit x → is_near x ≡ true
near (pos n) w = let below = w.1 in le-leb n 64 (omega (arith, ints))
near (negsuc n) w = let above = w.0 in le-leb (suc n) 64 (omega (arith, ints))

pub all_within : (xs : List ℤ) → list_all is_near xs ≡ true → All IsWithinLimit xs
all_within [] all k d inside = absurd (omega arith)
all_within (x ∷ xs) all zero d inside = within x (and_parts (is_near x) (list_all is_near xs) all).0
all_within (x ∷ xs) all (suc k) d inside = all_within xs (and_parts (is_near x) (list_all is_near xs) all).1 k d (omega arith)

pub all_near : (xs : List ℤ) → All IsWithinLimit xs → list_all is_near xs ≡ true
all_near [] all = refl
all_near (x ∷ xs) all = and_from _ _ (near x (all 0 x (omega arith))) (all_near xs (λ k d inside. all (suc k) d (omega arith)))

pub potentials_near : (d : Duals) → ArePotentials d → are_near 8 d ≡ true
potentials_near d p = and_from _ _ (and_from _ _ (and_from _ _ (le-leb (length d.u) 8 p.pawns) (eq-eqb (length d.v) 8 p.files)) (all_near d.u p.u_within)) (all_near d.v p.v_within)

-- what was read are potentials
pub potentials_known : (text : List ℕ) (d : Duals) → duals_of 8 text ≡ Some d → ArePotentials d
potentials_known text d e =
    let n = near_parts 8 d (duals_read 8 text d e).near in
    record {
      pawns = leb-true (length d.u) 8 n.u_few;
      files = eqb-true (length d.v) 8 n.v_size;
      u_within = all_within d.u n.u;
      v_within = all_within d.v n.v;
    }
