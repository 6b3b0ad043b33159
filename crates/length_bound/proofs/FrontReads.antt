-- The first bytes of a source, as they are read.
use Rattle.std.proofs.Common.{◌≡◌, ℕ, zero, suc, ◌+◌, ◌-◌, ◌≤◌, List, [], ◌∷◌, ◌++◌, length, take, sym, ap, ◌∙◌, arith, length-append, take_all, inl, inr}
use Rattle.std.specs.Prelude.{Option, min}
use Rattle.std.specs.Io.KnownBytes.{Consumes}
use Rattle.std.proofs.KnownBytes.{Consumes-trans}
use Rattle.std.proofs.lemmas.List.{length-take-le, take-append-le, take-take}
use Rattle.std.proofs.lemmas.Bool.{cases_lt}
use Rattle.retro_ports.specs.declared.piecewise.TheConstants.{MOST_BYTES}

-- as many bytes as there is room for
take_room : (room : ℕ) (front piece : List ℕ) → length front ≤ room → take room (front ++ piece) ≡ front ++ take (room - length front) piece
take_room room [] piece low = let same : room ≡ room - length {A = ℕ} [] = omega arith in ap (λ (k : ℕ). take k piece) same
take_room zero (b ∷ front) piece low = absurd (omega arith)
take_room (suc room) (b ∷ front) piece low =
    let same : room - length front ≡ suc room - length (b ∷ front) = omega arith in
    ap (λ (l : List ℕ). b ∷ l) (take_room room front piece (omega arith) ∙ ap (λ (k : ℕ). front ++ take k piece) same)

take_least : (room : ℕ) (piece : List ℕ) → take (min room (length piece)) piece ≡ take room piece
take_least room piece = elim (cases_lt room (length piece)) [
  | inl long ↦ let same : min room (length piece) ≡ room = omega arith in ap (λ (k : ℕ). take k piece) same
  | inr short ↦
      let same : min room (length piece) ≡ length piece = omega arith in
      ap (λ (k : ℕ). take k piece) same ∙ take_all (length piece) piece (omega arith) ∙ sym (take_all room piece short)
]

-- what is kept
pub kept : (front piece new : List ℕ) (room n : ℕ) → length front ≤ 512 → room ≡ 512 - length front → n ≡ min room (length piece) → new ≡ front ++ take n piece → new ≡ take 512 (front ++ piece)
kept front piece new room n low is count e =
    e ∙ ap (λ (k : ℕ). front ++ take k piece) count ∙ ap (λ (l : List ℕ). front ++ l) (take_least room piece ∙ ap (λ (k : ℕ). take k piece) is) ∙ sym (take_room 512 front piece low)

-- more bytes after those of which the first were kept
kept_more : (bytes piece : List ℕ) → take 512 (take 512 bytes ++ piece) ≡ take 512 (bytes ++ piece)
kept_more bytes piece = elim (cases_lt 512 (length bytes)) [
  | inl long ↦
      let size : 512 ≤ length (take 512 bytes) = omega (arith, length-take-le 512 bytes (omega arith)) in
      take-append-le 512 (take 512 bytes) piece size ∙ take-take 512 512 bytes (omega arith) ∙ sym (take-append-le 512 bytes piece (omega arith))
  | inr short ↦ ap (λ (l : List ℕ). take 512 (l ++ piece)) (take_all 512 bytes short)
]

-- how far a source was read
pub record FrontSoFar (before now : Option (List ℕ)) (faults_before faults_now fed : ℕ) (front : List ℕ) : Type 0 where
  pub bytes : List ℕ
  pub in_range : length bytes ≤ MOST_BYTES
  pub count : fed ≡ length bytes
  pub read : Consumes before now bytes
  pub kept : front ≡ take 512 bytes
  pub no_fault : faults_now ≡ faults_before

-- a piece more
pub front_next : (a b c : Option (List ℕ)) (f g h fed n : ℕ) (front new piece : List ℕ) → FrontSoFar a b f g fed front → Consumes b c piece → h ≡ g → n ≡ length piece → fed + n ≤ MOST_BYTES → new ≡ take 512 (front ++ piece) → FrontSoFar a c f h (fed + n) new
front_next a b c f g h fed n front new piece s read same count room e =
    let so-far = s.count in
    record {
      bytes = s.bytes ++ piece;
      in_range = omega (arith, length-append s.bytes piece);
      count = omega (arith, length-append s.bytes piece);
      read = Consumes-trans a b c s.bytes piece s.read read;
      kept = e ∙ ap (λ (l : List ℕ). take 512 (l ++ piece)) s.kept ∙ kept_more s.bytes piece;
      no_fault = same ∙ s.no_fault;
    }
