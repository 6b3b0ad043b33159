-- A proof that is found of a claim which the searches before it left open.
use Rattle.std.proofs.Common.{◌≡◌, ℕ, ◌⊎◌, inl, inr, subst, arith}
use Rattle.query_base.specs.Asked.{Asked}
use Rattle.query_base.specs.declared.claims.Claim.{Claim}
use Rattle.claim_findings.specs.Findings.{IsFound, IsProof, IsProvedAt}
use Rattle.claim_findings.specs.declared.findings.Finding.{Finding}
use Rattle.claim_findings.specs.declared.findings.Finding.TheVariants.{Open, Spent}

proved_of_open : (q : Asked) (claim : Claim) (most nodes depth : ℕ) → IsFound q claim most nodes Open → IsProvedAt q claim most depth → IsProof q claim most nodes depth
proved_of_open q claim most nodes depth left proved = record {
  proved = proved;
  least = λ k n below refutable cost. absurd (left.0 k (omega (arith, below, proved.proof.low)) refutable);
  plain = λ some e. absurd (left.1 some e);
}

proved_of_spent : (q : Asked) (claim : Claim) (most nodes depth : ℕ) → IsFound q claim most nodes Spent → IsProvedAt q claim most depth → IsProof q claim most nodes depth
proved_of_spent q claim most nodes depth left proved = record {
  proved = proved;
  least = λ k n below refutable cost. left.0 k n (omega (arith, below, proved.proof.low)) refutable cost;
  plain = λ some e. absurd (left.1 some e);
}

pub proved_further : (q : Asked) (claim : Claim) (most nodes depth : ℕ) (left : Finding) → IsFound q claim most nodes left → (left ≡ Open) ⊎ (left ≡ Spent) → IsProvedAt q claim most depth → IsProof q claim most nodes depth
proved_further q claim most nodes depth left found (inl open_) proved = proved_of_open q claim most nodes depth (subst (IsFound q claim most nodes) open_ found) proved
proved_further q claim most nodes depth left found (inr spent) proved = proved_of_spent q claim most nodes depth (subst (IsFound q claim most nodes) spent found) proved
