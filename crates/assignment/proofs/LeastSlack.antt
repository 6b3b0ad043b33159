-- The search for the least slack.
use Rattle.std.proofs.Common.{◌≡◌, ℕ, ◌+◌, ◌<◌, ◌≤◌, List, sym, refl, subst, arith, below_more}
use Rattle.assignment.specs.Pairings.{IsLink, IsOutside, slack_of}
use Rattle.assignment.specs.declared.nearest.Link.{Link}
use Rattle.assignment.specs.declared.pairing.Pairing.{Pairing}

module _ (table : List (List ℕ)) (width : ℕ) (p : Pairing width) (k : ℕ) where
  -- the best of the columns in the places below n
  pub record IsBestOfRow (m n : ℕ) (best : Link) : Type 0 where
    pub from : best.from ≡ m
    pub link : IsLink table width p k best.from best.to best.slack
    pub least : (e : ℕ) → e < n → IsOutside k e → best.slack ≤ slack_of table width p m e

  pub IsBestOfRow-better : (m n by : ℕ) (best new : Link) → IsBestOfRow m n best → m < k → k ≤ n → n < width → by ≡ slack_of table width p m n → by < best.slack
      → new ≡ record { from = m; to = n; slack = by } → IsBestOfRow m (n + 1) new
  IsBestOfRow-better m n by best new h within low high is less e =
      subst (λ (b : Link). IsBestOfRow m (n + 1) b) (sym e) (record {
        from = refl;
        link = record { within = within; to = high; outside = λ _. low; slack = is };
        least = below_more (λ e. IsOutside k e → by ≤ slack_of table width p m e) n
            (λ e lt out. let old = h.least e lt out in omega (arith, old))
            (λ _. omega arith);
      })

  pub IsBestOfRow-kept : (m n by : ℕ) (best new : Link) → IsBestOfRow m n best → by ≡ slack_of table width p m n → best.slack ≤ by → new ≡ best → IsBestOfRow m (n + 1) new
  IsBestOfRow-kept m n by best new h is more e =
      subst (λ (b : Link). IsBestOfRow m (n + 1) b) (sym e) (record {
        from = h.from;
        link = h.link;
        least = below_more (λ e. IsOutside k e → best.slack ≤ slack_of table width p m e) n
            h.least
            (λ _. omega arith);
      })

  -- the best of the rows in the places below n
  pub record IsBestOfRows (n : ℕ) (best : Link) : Type 0 where
    pub link : IsLink table width p k best.from best.to best.slack
    pub least : (m e : ℕ) → m < n → e < width → IsOutside k e → best.slack ≤ slack_of table width p m e

  pub IsBestOfRows-more : (n : ℕ) (best link new : Link) → IsBestOfRows n best → IsLink table width p k link.from link.to link.slack
      → ((e : ℕ) → e < width → IsOutside k e → link.slack ≤ slack_of table width p n e) → new.slack ≤ best.slack → new.slack ≤ link.slack
      → IsLink table width p k new.from new.to new.slack → IsBestOfRows (n + 1) new
  IsBestOfRows-more n best link new h l least one two is = record {
    link = is;
    least = λ m e lt. below_more (λ m. e < width → IsOutside k e → new.slack ≤ slack_of table width p m e) n
        (λ m low high out. let old = h.least m e low high out in omega (arith, old))
        (λ high out. let old = least e high out in omega (arith, old)) m lt;
  }
