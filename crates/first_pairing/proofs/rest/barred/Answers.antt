use Rattle.std.proofs.Common.{◌≡◌, ℕ, ◌-◌, ◌∷◌, ◌++◌, [], List, ap, sym, ◌∙◌, inl, inr, arith, slice_index, slice_index_or, length, length-append}
use Rattle.std.proofs.lemmas.Bool.{cases_lt}
use Rattle.std.proofs.lemmas.List.{get_or_append_left, get_or-append-add, get_or_default}
use Rattle.assignment.specs.Tables.{cost_at}
use Rattle.assignment.proofs.Tables.{IsTable-more}
use Rattle.first_pairing.proofs.rest.barred.Goals as goal

pub barred_row-requires : goal.barred_row-requires
barred_row-requires c = record {
  small = λ k d low.
      let zero = get_or_default (slice_index_or c.args.costs.now c.loop-i.i []) k d 0 low in
      let small = c.requires.table.costs c.loop-i.i k in
      omega (arith, zero, small);
}

pub loop-i-preserved : goal.loop-i-preserved
loop-i-preserved c =
    let rows : List (List ℕ) = c.loop-i.rows.items in
    let new : List ℕ = c.barred_row.result in
    let size : length rows ≡ c.loop-i.i = c.loop-i.invariant.size in
    record {
      table = IsTable-more rows c.push.new.self.items new 16 32767 c.loop-i.invariant.table (omega (arith, c.requires.table.rows)) c.barred_row.ensures.small c.push.ensures.items;
      size = ap (λ (l : List (List ℕ)). length l) c.push.ensures.items ∙ length-append rows (new ∷ []) ∙ omega arith;
      same = λ i j low free. elim (cases_lt i c.loop-i.i) [
        | inl before ↦ ap (λ (t : List (List ℕ)). cost_at t i j) c.push.ensures.items ∙ ap (λ (r : List ℕ). slice_index r j) (get_or_append_left rows (new ∷ []) [] i (omega arith)) ∙ c.loop-i.invariant.same i j before free
        | inr past ↦
            let here : i ≡ length rows = omega arith in
            let last : slice_index_or (rows ++ new ∷ []) i [] ≡ new = ap (λ (n : ℕ). slice_index_or (rows ++ new ∷ []) n []) here ∙ sym (ap (λ (n : ℕ). slice_index_or (rows ++ new ∷ []) n []) (omega arith)) ∙ get_or-append-add rows (new ∷ []) 0 [] in
            let row : i ≡ c.loop-i.i = omega arith in
            ap (λ (t : List (List ℕ)). cost_at t i j) c.push.ensures.items ∙ ap (λ (r : List ℕ). slice_index r j) last ∙ c.barred_row.ensures.same j free ∙ ap (λ (n : ℕ). cost_at c.args.costs.now n j) (sym row)
      ];
    }
