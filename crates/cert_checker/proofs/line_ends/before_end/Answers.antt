use Rattle.std.proofs.Common.{◌≡◌, ◌+◌, ℕ, Bool, true, cond, eqb, not, get_or, ap, ◌∙◌, subst, arith, w8}
use Rattle.std.proofs.lemmas.Bool.{both_ways, eq-eqb, eqb-true}
use Rattle.std.proofs.lemmas.Simd.{bitmask_splat, first_set_mask_l, length-chunk, run_in_chunk_fails, run_in_chunk_le, run_in_chunk_stops}
use Rattle.std.specs.List.{prefix_len}
use Rattle.std.specs.Int.{trailing_zeros, w64}
use lib.Lanes.{chunk}
use Rattle.cert_checker.proofs.Pieces.{no_end_before}
use Rattle.cert_checker.proofs.line_ends.before_end.Goals as goal

abbrev ends : ℕ → Bool
ends x = eqb x 10

pub returns : goal.returns
returns c =
    let bytes = c.args.bytes.now in
    let r = c.lowest.result in
    let near = chunk 0 16 bytes in
    let long = length-chunk 0 16 bytes c.requires in
    let counted : r ≡ prefix_len (λ x. not (ends x)) near =
    c.lowest.ensures ∙ ap (λ (m : ℕ). cond (eqb m 0) 16 (trailing_zeros w64 m)) (bitmask_splat w8 eqb near 16 10 long (omega arith)) ∙ first_set_mask_l ends near 16 long (omega arith) in
    let here : 0 + r ≡ r = omega arith in
    let low = run_in_chunk_le ends bytes 0 16 r 0 c.requires counted in
    record {
      within = low;
      before = no_end_before bytes r (omega (arith, low, c.requires)) (λ k below same. both_ways _ (run_in_chunk_fails ends bytes 0 16 r 0 c.requires counted k (omega arith) (omega arith)) (eq-eqb _ _ same));
      end = λ short. eqb-true (get_or bytes r 0) 10 (subst (λ (k : ℕ). ends (get_or bytes k 0) ≡ true) here (run_in_chunk_stops ends bytes 0 16 r 0 c.requires counted short));
    }
