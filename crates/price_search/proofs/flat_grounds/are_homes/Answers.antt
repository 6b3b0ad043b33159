use Rattle.std.proofs.Common.{◌≡◌, ℕ, ◌<◌, Bool, true, false, List, get_or, length, slice_index_or, slice_set, inl, inr, sym, ap, ◌∙◌, arith, below_more, length-set, get_or-set_same, get_or-set_other}
use Rattle.std.proofs.lemmas.Bool.{both_ways, cases_eq, cases_lt}
use Rattle.price_search.proofs.flat_grounds.are_homes.Goals as goal

-- what is marked stays so
marked_before : (seen : List Bool) (home other : ℕ) → home < length seen → slice_index_or seen other false ≡ true → slice_index_or (slice_set seen home true) other false ≡ true
marked_before seen home other low here = elim (cases_eq other home) [
  | inl same ↦ ap (λ (n : ℕ). slice_index_or (slice_set seen home true) n false) same ∙ get_or-set_same seen home true false low
  | inr apart ↦ get_or-set_other seen home other true false apart ∙ here
]

pub loop-i-preserved : goal.loop-i-preserved
loop-i-preserved c =
    let homes : List ℕ = c.args.homes.now in
    let seen : List Bool = c.loop-i.seen in
    let home : ℕ = get_or homes c.loop-i.i 0 in
    let x = c.loop-i.invariant in
    let low : home < 16 = c.if-homes-i-ge16.false in
    let free : slice_index_or seen home false ≡ false = c.if-seen-homes.false in
    let room : home < length seen = omega (arith, low, x.whole) in
    record {
      within = below_more (λ (k : ℕ). get_or homes k 0 < 16) c.loop-i.i x.within low;
      apart = λ j k lt before same.
          elim (cases_lt k c.loop-i.i) [
            | inl earlier ↦ x.apart j k earlier before same
            | inr last ↦
                let here : k ≡ c.loop-i.i = omega (arith, lt, last) in
                let marked : slice_index_or seen (get_or homes j 0) false ≡ true = x.marked j (omega (arith, before, here)) in
                both_ways _ free (sym (ap (λ (n : ℕ). slice_index_or seen n false) (same ∙ ap (λ (n : ℕ). get_or homes n 0) here)) ∙ marked)
          ];
      marked = below_more (λ (k : ℕ). slice_index_or (slice_set seen home true) (get_or homes k 0) false ≡ true) c.loop-i.i (λ k lt. marked_before seen home (get_or homes k 0) room (x.marked k lt)) (get_or-set_same seen home true false room);
      whole = length-set seen home true ∙ x.whole;
    }
