-- Captures of a side's pawns added up over the pawns who made them, and over the men whom they took.
use Rattle.std.proofs.Common.{◌≡◌, ◌≢◌, ℕ, ◌+◌, ◌≤◌, Bool, true, inl, inr, List, [], ◌∷◌, ◌++◌, length, map, refl, ap, sym, subst, ◌∙◌, arith}
use Rattle.std.proofs.lemmas.List.{length-append, length-map}
use Rattle.std.proofs.lemmas.List.Sums.{sum_by-cons}
use Rattle.std.specs.List.{AllPairs, Contains, sum_by}
use Rattle.general_lemmas.proofs.Differing.{Differ, Has, contains-has, differ-append, has-contains, has-either, pairs-differ}
use Rattle.general_lemmas.proofs.Lists.{contains-map, map-contains}
use Rattle.general_lemmas.proofs.SumsAmong.{sum-among, sum-ones}
use Rattle.board_base.specs.Board.{array_of, at, is_of, men_squares, opponent}
use Rattle.board_base.specs.Game.{IsGame}
use Rattle.board_base.specs.declared.men.Colour.{Colour}
use Rattle.board_base.specs.declared.men.Colour.TheVariants.{White, Black}
use Rattle.board_base.specs.declared.moves.Move.{Move}
use Rattle.men_account.proofs.Captured.{captured-differ}
use Rattle.men_fates.specs.Deeds.{Strike, strikes, struck_by, way_of}
use Rattle.men_fates.specs.Ways.{captures_on}
use Rattle.men_fates.proofs.Blows.{each-of-enemy}
use Rattle.men_fates.proofs.Strikes.{strikes-take, way-captures}
use Rattle.men_ledger.specs.Ledger.{paid, turnover}
use Rattle.men_ledger.proofs.Balance.{paid-in-all}
use Rattle.men_ledger.proofs.Keyed.{differ-pairs}
use Rattle.balance_rule.specs.Balance.{men_on}
use Rattle.balance_rule.proofs.TrueHomes.{fewer, home-listed, squares-differ}
use Rattle.ledger_facts.specs.Lines.{FellToPawn}
use Rattle.ledger_facts.specs.Supposed.{captures}
use Rattle.ledger_facts.specs.declared.suppositions.Squares.TheVariants.{All}
use Rattle.ledger_facts.proofs.Raised.{counted}
use Rattle.men_ledger.proofs.Closing.{pawn-of, sum-each}

-- all captures count
pub all-counted : (all : List Strike) → counted All all ≡ length all
all-counted [] = refl
all-counted (x ∷ all) = omega (arith, all-counted all)

ones : (all : List Strike) → turnover (λ s. 1) all ≡ length all
ones [] = refl
ones (x ∷ all) = omega (arith, sum_by-cons (λ (y : Strike). 1) x all, ones all)

module _ (o : List Bool) (g : List Move) (c : Colour) (game : IsGame o g) where
  all-are : captures o g c All ≡ length (strikes o g c)
  all-are = all-counted (strikes o g c)

  -- what different men captured as pawns
  pub pawns-add : (homes : List ℕ) → AllPairs (λ h k. h ≢ k) homes → ((h : ℕ) → Contains homes h → is_of c (at (array_of o) h) ≡ true) → sum_by (λ h. length (captures_on h (way_of o g h))) homes ≤ captures o g c All
  pawns-add homes apart began =
      let side : List ℕ = men_squares c (array_of o) in
      let each = sum-each (λ h. length (captures_on h (way_of o g h))) (paid (λ s. 1) (strikes o g c)) homes (λ h there.
      let told : length (captures_on h (way_of o g h)) ≡ length (struck_by h (strikes o g c)) = ap (λ (l : List ℕ). length l) (way-captures o g c h game (began h there)) in
      omega (arith, told, sum-ones (λ s. 1) (struck_by h (strikes o g c)) (λ z h. refl))) in
      let among = sum-among (paid (λ s. 1) (strikes o g c)) homes side (differ-pairs homes apart) (λ h there. home-listed o c h (began h (has-contains homes h there))) in
      let whole = paid-in-all o g c (λ s. 1) side game (pairs-differ side (squares-differ c (array_of o))) (λ h pawn. has-contains side h (home-listed o c h (pawn-of c o h pawn))) in
      omega (arith, each, among, whole, ones (strikes o g c), all-are)

  -- the men whom they took
  abbrev victims : List ℕ
  victims = map (λ (x : Strike). x.of) (strikes o g c)

  victims-differ : Differ victims
  victims-differ = subst Differ (sym (strikes-take o g c game)) (captured-differ o g c game)

  many-are : length victims ≡ captures o g c All
  many-are = length-map (strikes o g c) (λ (x : Strike). x.of) ∙ sym all-are

  pub struck-add : (homes : List ℕ) → AllPairs (λ h k. h ≢ k) homes → ((h : ℕ) → Contains homes h → (x : Strike) × Contains (strikes o g c) x × (x.of ≡ h)) → length homes ≤ captures o g c All
  struck-add homes apart fell =
      omega (
        arith,
        many-are,
        fewer homes victims (differ-pairs homes apart) (λ h there.
            let x = fell h (has-contains homes h there) in
            subst (Has victims) x.2 (contains-has victims x.0.of (contains-map (λ (y : Strike). y.of) (strikes o g c) x.0 x.1))),
      )

  unstruck-add : (homes : List ℕ) → AllPairs (λ h k. h ≢ k) homes → ((h : ℕ) → Contains homes h → is_of (opponent c) (at (array_of o) h) ≡ true) → ((h : ℕ) → Contains homes h → (x : Strike) × Contains (strikes o g c) x × (x.of ≡ h) → ⊥) → captures o g c All + length homes ≤ men_on (opponent c) (array_of o)
  unstruck-add homes apart began never_fell =
      let victim : (h : ℕ) → Has victims h → (x : Strike) × Contains (strikes o g c) x × (x.of ≡ h) = λ h there. map-contains (λ (y : Strike). y.of) (strikes o g c) h (has-contains victims h there) in
      let differ : Differ (victims ++ homes) = differ-append victims homes victims-differ (differ-pairs homes apart) (λ h here there. never_fell h (has-contains homes h there) (victim h here)) in
      let few = fewer (victims ++ homes) (men_squares (opponent c) (array_of o)) differ (λ h there. elim (has-either victims homes h there) [
        | inl here ↦
            let x = victim h here in
            home-listed o (opponent c) h (ap (λ (k : ℕ). is_of (opponent c) (at (array_of o) k)) (sym x.2) ∙ each-of-enemy o g c game x.0 x.1)
        | inr later ↦ home-listed o (opponent c) h (began h (has-contains homes h later))
      ]) in
      omega (arith, few, many-are, length-append victims homes)

-- by the side whose men they took
pub unstruck-of : (o : List Bool) (g : List Move) (c : Colour) → IsGame o g → (homes : List ℕ) → AllPairs (λ h k. h ≢ k) homes → ((h : ℕ) → Contains homes h → is_of c (at (array_of o) h) ≡ true) → ((h : ℕ) → Contains homes h → FellToPawn o g c h → ⊥) → captures o g (opponent c) All + length homes ≤ men_on c (array_of o)
unstruck-of o g White game homes apart began never_fell = unstruck-add o g Black game homes apart began never_fell
unstruck-of o g Black game homes apart began never_fell = unstruck-add o g White game homes apart began never_fell
