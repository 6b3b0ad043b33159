-- What holds of each of the four castlings.
use Rattle.std.proofs.Common.{◌≡◌, Bool, true, false, ◌&&◌, ◌||◌, not, inl, inr, refl, sym, ◌∙◌}
use Rattle.std.proofs.lemmas.Bool.{and_from, and_parts, both_ways, not-true, or_cases}
use Rattle.std.specs.Prelude.{IsTrue, ◌↔◌}
use Rattle.std.specs.List.{list_all}
use Rattle.board_base.specs.Play.{all_castles}
use Rattle.board_base.specs.declared.castles.Castle.{Castle}
use Rattle.board_base.specs.declared.castles.Castle.TheVariants.{WhiteShort, WhiteLong, BlackShort, BlackLong}

pub each-castle : (f : Castle → Bool) → list_all f all_castles ≡ true → (x : Castle) → f x ≡ true
each-castle f h x =
    let p1 = and_parts (f WhiteShort) (f WhiteLong && (f BlackShort && (f BlackLong && true))) h in
    let p2 = and_parts (f WhiteLong) (f BlackShort && (f BlackLong && true)) p1.1 in
    let p3 = and_parts (f BlackShort) (f BlackLong && true) p2.1 in
    let p4 = and_parts (f BlackLong) true p3.1 in
    elim x as (λ y. f y ≡ true) [ WhiteShort ↦ p1.0 | WhiteLong ↦ p2.0 | BlackShort ↦ p3.0 | BlackLong ↦ p4.0 ]

pub castle-each : (f : Castle → Bool) → ((x : Castle) → f x ≡ true) → list_all f all_castles ≡ true
castle-each f h = and_from _ _ (h WhiteShort) (and_from _ _ (h WhiteLong) (and_from _ _ (h BlackShort) (and_from _ _ (h BlackLong) refl)))

pub where_held : (p q : Bool) → (not p || q) ≡ true → p ≡ true → q ≡ true
where_held p q h has = elim (or_cases _ _ h) [
  | inl lacks ↦ absurd (both_ways _ (not-true _ lacks) has)
  | inr fits ↦ fits
]

held_where : (p q : Bool) → (p ≡ true → q ≡ true) → (not p || q) ≡ true
held_where true q h = h refl
held_where false q h = refl

-- what holds of each castling that passes the first test
pub each-held : (p q : Castle → Bool) (b : Bool) → b ≡ list_all (λ x. not (p x) || q x) all_castles → IsTrue b ↔ ((x : Castle) → IsTrue (p x) → IsTrue (q x))
each-held p q b e = (
  λ h x. where_held (p x) (q x) (each-castle (λ y. not (p y) || q y) (sym e ∙ h) x),
  λ h. e ∙ castle-each (λ y. not (p y) || q y) (λ x. held_where (p x) (q x) (h x)),
)
