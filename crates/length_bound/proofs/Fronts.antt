-- The lines of the first bytes, and where all of them go bad.
use Rattle.std.proofs.Common.{◌≡◌, ℕ, zero, suc, ◌+◌, ◌-◌, ◌<◌, ◌≤◌, ◌==◌, Bool, true, false, cond, inl, inr, List, [], ◌∷◌, ◌++◌, length, take, refl, sym, ap, ◌∙◌, subst, arith, append-nil, append_assoc, length-append}
use Rattle.std.specs.List.{onto_first}
use Rattle.std.proofs.lemmas.Bool.{cases_lt}
use Rattle.std.proofs.Math.Seq.{take-append_seam}
use Rattle.cert_text.specs.Certificate.{Lines}
use Rattle.cert_text.specs.Lines.{cut}
use Rattle.cert_text.specs.Texts.{Begins, IsBadAt}

-- how many bytes lines have
abbrev pub bytes_in : Lines → ℕ
bytes_in [] = 0
bytes_in (line ∷ lines) = length line + bytes_in lines

pub bytes_in-append : (a b : Lines) → bytes_in (a ++ b) ≡ bytes_in a + bytes_in b
bytes_in-append [] b = omega arith
bytes_in-append (line ∷ a) b = omega (arith, bytes_in-append a b)

bytes_onto : (b : ℕ) (lines : Lines) → bytes_in (onto_first b lines) ≡ suc (bytes_in lines)
bytes_onto b [] = refl
bytes_onto b (line ∷ lines) = omega arith

bytes_step : (t : Bool) (b : ℕ) (lines : Lines) → bytes_in (cond t ((b ∷ []) ∷ lines) (onto_first b lines)) ≡ suc (bytes_in lines)
bytes_step true b lines = omega arith
bytes_step false b lines = bytes_onto b lines

pub bytes_in-cut : (bytes : List ℕ) → bytes_in (cut bytes) ≡ length bytes
bytes_in-cut [] = refl
bytes_in-cut (b ∷ bytes) = bytes_step (b == 10) b (cut bytes) ∙ ap suc (bytes_in-cut bytes)

-- the second lines are the first, but that the last goes on and others follow
record GoOn (lines all : Lines) : Type 0 where
  init : Lines
  last : List ℕ
  more : List ℕ
  others : Lines
  lines_are : lines ≡ init ++ last ∷ []
  all_are : all ≡ init ++ (last ++ more) ∷ others

after_end : (b : ℕ) (lines all : Lines) → GoOn lines all → GoOn ((b ∷ []) ∷ lines) ((b ∷ []) ∷ all)
after_end b lines all g = record {
  init = (b ∷ []) ∷ g.init;
  last = g.last;
  more = g.more;
  others = g.others;
  lines_are = ap (λ (l : Lines). (b ∷ []) ∷ l) g.lines_are;
  all_are = ap (λ (l : Lines). (b ∷ []) ∷ l) g.all_are;
}

onto_both : (b : ℕ) (init : Lines) (last more : List ℕ) (others : Lines) → GoOn (onto_first b (init ++ last ∷ [])) (onto_first b (init ++ (last ++ more) ∷ others))
onto_both b [] last more others = record { init = []; last = b ∷ last; more = more; others = others; lines_are = refl; all_are = refl }
onto_both b (line ∷ init) last more others = record { init = (b ∷ line) ∷ init; last = last; more = more; others = others; lines_are = refl; all_are = refl }

after_byte : (b : ℕ) (lines all : Lines) → GoOn lines all → GoOn (onto_first b lines) (onto_first b all)
after_byte b lines all g = rw (g.lines_are, g.all_are) (onto_both b g.init g.last g.more g.others)

step : (t : Bool) (b : ℕ) (lines all : Lines) → GoOn lines all → GoOn (cond t ((b ∷ []) ∷ lines) (onto_first b lines)) (cond t ((b ∷ []) ∷ all) (onto_first b all))
step true b lines all g = after_end b lines all g
step false b lines all g = after_byte b lines all g

one_byte : (t : Bool) (b : ℕ) (all : Lines) → GoOn (cond t ((b ∷ []) ∷ []) (onto_first b [])) (cond t ((b ∷ []) ∷ all) (onto_first b all))
one_byte true b all = record { init = []; last = b ∷ []; more = []; others = all; lines_are = refl; all_are = refl }
one_byte false b [] = record { init = []; last = b ∷ []; more = []; others = []; lines_are = refl; all_are = refl }
one_byte false b (line ∷ all) = record { init = []; last = b ∷ []; more = line; others = all; lines_are = refl; all_are = refl }

go_on : (b : ℕ) (front others : List ℕ) → GoOn (cut (b ∷ front)) (cut ((b ∷ front) ++ others))
go_on b [] others = one_byte (b == 10) b (cut others)
go_on b (c ∷ front) others = step (b == 10) b (cut (c ∷ front)) (cut ((c ∷ front) ++ others)) (go_on c front others)

-- how many of the first lines are whole
take_init : (init : Lines) (n : ℕ) (a b : Lines) → n ≤ length init → take n (init ++ a) ≡ take n (init ++ b)
take_init [] zero a b low = refl
take_init [] (suc n) a b low = absurd (omega arith)
take_init (line ∷ init) zero a b low = refl
take_init (line ∷ init) (suc n) a b low = ap (λ (l : Lines). line ∷ l) (take_init init n a b (omega arith))

module _ {C : Type 0} (Are : Lines → C → Type 0) where
  -- no text has so many bytes
  abbrev Short : ℕ → Type 0
  Short most = (lines : Lines) (c : C) → Are lines c → bytes_in lines < most

  -- lines that go bad and have so many bytes go bad there whatever follows
  bad_init : (most : ℕ) (init : Lines) (last more : List ℕ) (others : Lines) (n : ℕ) → Short most → most ≤ bytes_in (init ++ last ∷ []) → IsBadAt Are (init ++ last ∷ []) n → IsBadAt Are (init ++ (last ++ more) ∷ others) n
  bad_init most init last more others n short long bad = elim (cases_lt n (length init + 1)) [
    | inl whole ↦ record {
      counted = bad.counted;
      front = subst (Begins Are) (take_init init (n - 1) (last ∷ []) ((last ++ more) ∷ others) (omega arith)) bad.front;
      bad = elim bad.bad [
        | inl within ↦ inl (omega (arith, length-append init ((last ++ more) ∷ others)), λ begun. within.1 (subst (Begins Are) (take_init init n ((last ++ more) ∷ others) (last ∷ []) (omega arith)) begun))
        | inr ends ↦ let end = ends.0 in absurd (omega (arith, length-append init (last ∷ [])))
      ];
    }
    | inr past ↦ elim (cases_lt n (length init + 2)) [
      | inl at_last ↦
          let is : n ≡ length init + 1 = omega arith in
          record {
            counted = bad.counted;
            front = subst (Begins Are) (take_init init (n - 1) (last ∷ []) ((last ++ more) ∷ others) (omega arith)) bad.front;
            bad = inl (
              omega (arith, length-append init ((last ++ more) ∷ others)),
              λ begun.
                  let whole : take n (init ++ (last ++ more) ∷ others) ≡ init ++ (last ++ more) ∷ [] = ap (λ (k : ℕ). take k (init ++ (last ++ more) ∷ others)) (is ∙ sym (length-append init ((last ++ more) ∷ []))) ∙ ap (take (length (init ++ (last ++ more) ∷ []))) (sym (append_assoc init ((last ++ more) ∷ []) others)) ∙ take-append_seam (init ++ (last ++ more) ∷ []) others in
                  let few = short (take n (init ++ (last ++ more) ∷ others) ++ begun.0) begun.1 begun.2 in
                  omega (arith, few, long, ap bytes_in whole, bytes_in-append (take n (init ++ (last ++ more) ∷ others)) begun.0, bytes_in-append init ((last ++ more) ∷ []), bytes_in-append init (last ∷ []), length-append last more),
            );
          }
      | inr beyond ↦ elim bad.bad [
        | inl within ↦ let inside = within.0 in absurd (omega (arith, length-append init (last ∷ [])))
        | inr ends ↦
            let end = ends.0 in
            let all : take (n - 1) (init ++ last ∷ []) ≡ init ++ last ∷ [] = ap (λ (k : ℕ). take k (init ++ last ∷ [])) (omega arith) ∙ ap (take (length (init ++ last ∷ []))) (sym (append-nil (init ++ last ∷ []))) ∙ take-append_seam (init ++ last ∷ []) [] in
            let few = short (take (n - 1) (init ++ last ∷ []) ++ bad.front.0) bad.front.1 bad.front.2 in
            absurd (omega (arith, few, long, ap bytes_in all, bytes_in-append (take (n - 1) (init ++ last ∷ [])) bad.front.0))
      ]
    ]
  ]

  pub bad_front : (most : ℕ) (front others : List ℕ) (n : ℕ) → 1 ≤ most → Short most → most ≤ length front → IsBadAt Are (cut front) n → IsBadAt Are (cut (front ++ others)) n
  bad_front most [] others n some short long bad = absurd (omega arith)
  bad_front most (b ∷ front) others n some short long bad =
      let g = go_on b front others in
      let many : most ≤ bytes_in (g.init ++ g.last ∷ []) = omega (arith, long, bytes_in-cut (b ∷ front), ap bytes_in g.lines_are) in
      rw g.all_are (bad_init most g.init g.last g.more g.others n short many (rw g.lines_are at bad))
