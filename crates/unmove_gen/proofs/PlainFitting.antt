-- Which captures of one move fit, told by two boards before it: with the target empty, and with a pawn on it.
use Rattle.std.proofs.Common.{◌≡◌, ℕ, Bool, true, false, ◌&&◌, ◌||◌, not, nat_le, List, [], ◌∷◌, length, set, inl, inr, refl, ap, sym, ◌∙◌, arith}
use Rattle.std.proofs.lemmas.Bool.{and_from, and_left, and_parts, and_right, both_ways, cases_Bool, cases_eq, false_from_ne_true, true_from_ne_false}
use Rattle.std.specs.Prelude.{Option, Some, None}
use Rattle.board_base.specs.Board.{Places, at, is_a, is_empty, is_of, man, opponent, same_kind}
use Rattle.board_base.specs.Attacks.{attacks, attacks_from}
use Rattle.board_base.specs.Play.{double_of, play, promoted}
use Rattle.board_base.specs.Legal.{pawn_captures_en_passant}
use Rattle.board_base.specs.declared.men.Man.{Man}
use Rattle.board_base.specs.declared.men.Colour.{Colour}
use Rattle.board_base.specs.declared.men.Colour.TheVariants.{White, Black}
use Rattle.board_base.specs.declared.men.Kind.{Kind}
use Rattle.board_base.specs.declared.men.Kind.TheVariants.{Pawn, Knight, Bishop, Rook, Queen, King}
use Rattle.board_base.specs.declared.moves.Move.{Move}
use Rattle.board_base.specs.declared.unmoves.Unmove.{Unmove}
use Rattle.board_base.proofs.KindsOfMen.{colour_is, opponent-twice}
use Rattle.men_account.specs.Account.{accounts_for, counts_of, excess_of}
use Rattle.men_account.specs.declared.tallies.Allowance.{Allowance}
use Rattle.men_account.specs.declared.tallies.Counts.{Counts}
use Rattle.unmove_gen.specs.declared.facts.QueryFacts.{QueryFacts}
use Rattle.play_rules.specs.Laws.{is_end}
use Rattle.query_base.specs.Asked.{Asked}
use Rattle.unmove_gen.specs.Listed.{answered, before, every_right, fits_ends, is_retraction, mover, obeys, taking, taking_en_passant}
use Rattle.unmove_gen.specs.Plain.{AreFitting, AreFacts, IsPlain, goes_plainly, goes_soundly, has_room, put_back, starts_on_end}
use Rattle.unmove_gen.specs.TakenBack.{captured_by}
use Rattle.general_lemmas.proofs.Truth.{same_truth}
use Rattle.unmove_gen.proofs.Marking.{marked-passes, wrongly-marked}
use Rattle.unmove_gen.proofs.Opened.{attacks-but, attacks-less, goes-same}
use Rattle.board_base.proofs.Hits.{hit-attacks}
use Rattle.std.proofs.lemmas.List.{get_or-set_same, get_or-set_other}
use Rattle.std.proofs.Math.Bool.{and-true}
use Rattle.unmove_gen.proofs.Parts.{fitted, legality_of}
use Rattle.play_rules.proofs.Left.{placed}
use Rattle.unmove_gen.proofs.Back.{came}
use Rattle.unmove_gen.proofs.Marks.{Captures, captures}
use Rattle.unmove_gen.proofs.Members.{length-back}
use Rattle.unmove_gen.proofs.PutBack.{at-origin, at-other, at-target}
use Rattle.unmove_gen.proofs.PutCounts.{account-of, account-quiet, account-taken}
use Rattle.unmove_gen.proofs.PlainListed.{IsTaken, listed-plain, other-colour}

captured-none : (place : Option Man) → None ≡ captured_by place None
captured-none None = refl
captured-none (Some m) = refl

captured-man : (d : Colour) (place : Option Man) (k : Kind) → is_of (opponent d) place ≡ true → man d k ≡ captured_by place (Some k)
captured-man d None k h = absurd (both_ways false refl h)
captured-man d (Some m) k h = ap (λ (e : Colour). man e k) (sym (opponent-twice d) ∙ ap opponent (colour_is (opponent d) m.colour h))

not-mine : (d : Colour) (k : Kind) → is_of (opponent d) (man d k) ≡ false
not-mine White k = refl
not-mine Black k = refl

pub is-mine : (d : Colour) (k : Kind) → is_of (opponent (opponent d)) (man d k) ≡ true
is-mine White k = refl
is-mine Black k = refl

swapped : (e n : Bool) → (e && n) ≡ (n && e)
swapped true true = refl
swapped true false = refl
swapped false true = refl
swapped false false = refl

turned : (s e n : Bool) → ((s && e) && n) ≡ ((s && n) && e)
turned true e n = swapped e n
turned false e n = refl

moved-out : (r s e n : Bool) → (r && (s && e) && n) ≡ ((s && n) && (r && e))
moved-out true s e n = turned s e n
moved-out false s e n = sym (and_right (s && n) false refl)

shuffled : (g r s e n : Bool) → (g && (r && (s && e) && n)) ≡ ((g && s && n) && (r && e))
shuffled true r s e n = moved-out r s e n
shuffled false r s e n = refl

pub fits-quiet : (q : Asked) (f : QueryFacts) (m : Move) → AreFacts q f → IsPlain q.board (mover q) m → obeys q m ≡ true → is_retraction q (taking m None) ≡ ((goes_plainly (put_back q.board m None) (mover q) m && not (starts_on_end q.board m) && not (attacks (put_back q.board m None) f.king (mover q))) && (nat_le (excess_of f.men f.allowed) f.allowed.pawns && true))
fits-quiet q f m n p asked =
    let board : Places = put_back q.board m None in
    let k : IsTaken (mover q) None = record { not_own = refl; no_king = refl } in
    let account : accounts_for q.odds board q.turn ≡ nat_le (excess_of f.men f.allowed) f.allowed.pawns =
    account-quiet q.odds q.turn (mover q) q.board m p (other-colour q.turn (at q.board m.to) p.own) ∙ account-of q.odds q.board q.turn
    ∙ ap (λ (a : Allowance). nat_le (excess_of (counts_of q.turn q.board) a) a.pawns) (sym n.allowed_is) ∙ ap (λ (x : Counts). nat_le (excess_of x f.allowed) f.allowed.pawns) (sym n.men_are) in
    listed-plain q f m None None (captured-none (at q.board m.to)) n p asked k
    ∙ ap (λ (b : Bool). goes_plainly board (mover q) m && (b && (not (starts_on_end q.board m) && true) && not (attacks board f.king (mover q)))) account
    ∙ shuffled (goes_plainly board (mover q) m) (nat_le (excess_of f.men f.allowed) f.allowed.pawns) (not (starts_on_end q.board m)) true (not (attacks board f.king (mover q)))

-- the boards with different men on the target
pub full-same : (d : Colour) (board : Places) (m : Move) (j k : Kind) → IsPlain board (opponent d) m → (x : ℕ) → is_empty (at (put_back board m (man d j)) x) ≡ is_empty (at (put_back board m (man d k)) x)
full-same d board m j k p x = elim (cases_eq x m.from) [
  | inl same ↦
      ap is_empty (ap (at (put_back board m (man d j))) same ∙ at-origin board (opponent d) m (man d j) p)
      ∙ sym (ap is_empty (ap (at (put_back board m (man d k))) same ∙ at-origin board (opponent d) m (man d k) p))
  | inr f ↦ elim (cases_eq x m.to) [
    | inl same ↦
        ap is_empty (ap (at (put_back board m (man d j))) same ∙ at-target board (opponent d) m (man d j) p)
        ∙ sym (ap is_empty (ap (at (put_back board m (man d k))) same ∙ at-target board (opponent d) m (man d k) p))
    | inr t ↦ ap is_empty (at-other board m (man d j) x f t ∙ sym (at-other board m (man d k) x f t))
  ]
]

-- a man of the side that moved stands on both, whatever stands on the target
own-same : (d : Colour) (board : Places) (m : Move) (j : Kind) (taken : Option Man) → IsPlain board (opponent d) m → (x : ℕ) → is_of (opponent d) (at (put_back board m (man d j)) x) ≡ true → at (put_back board m (man d j)) x ≡ at (put_back board m taken) x
own-same d board m j taken p x own = elim (cases_eq x m.from) [
  | inl same ↦
      ap (at (put_back board m (man d j))) same ∙ at-origin board (opponent d) m (man d j) p
      ∙ sym (ap (at (put_back board m taken)) same ∙ at-origin board (opponent d) m taken p)
  | inr f ↦ elim (cases_eq x m.to) [
    | inl same ↦ absurd (both_ways _ (ap (is_of (opponent d)) (ap (at (put_back board m (man d j))) same ∙ at-target board (opponent d) m (man d j) p) ∙ not-mine d j) own)
    | inr t ↦ at-other board m (man d j) x f t ∙ sym (at-other board m taken x f t)
  ]
]

-- what is empty with a man on the target is so without him
emptier : (d : Colour) (board : Places) (m : Move) (j : Kind) → IsPlain board (opponent d) m → (x : ℕ) → is_empty (at (put_back board m (man d j)) x) ≡ true → is_empty (at (put_back board m None) x) ≡ true
emptier d board m j p x empty = elim (cases_eq x m.from) [
  | inl same ↦
      sym (ap is_empty (ap (at (put_back board m (man d j))) same ∙ at-origin board (opponent d) m (man d j) p)
      ∙ sym (ap is_empty (ap (at (put_back board m None)) same ∙ at-origin board (opponent d) m None p))) ∙ empty
  | inr f ↦ elim (cases_eq x m.to) [
    | inl same ↦ ap is_empty (ap (at (put_back board m None)) same ∙ at-target board (opponent d) m None p)
    | inr t ↦ sym (ap is_empty (at-other board m (man d j) x f t ∙ sym (at-other board m None x f t))) ∙ empty
  ]
]

-- a king who isn't attacked with the target empty isn't with a man on it
pub free-full : (d : Colour) (board : Places) (m : Move) (j : Kind) (s : ℕ) → IsPlain board (opponent d) m → attacks (put_back board m None) s (opponent d) ≡ false → attacks (put_back board m (man d j)) s (opponent d) ≡ false
free-full d board m j s p free = attacks-less (put_back board m (man d j)) (put_back board m None) s (opponent d) (own-same d board m j None p) (emptier d board m j p) free

no-more : (d : Colour) (board : Places) (m : Move) (j k : Kind) (s : ℕ) → IsPlain board (opponent d) m → attacks (put_back board m (man d k)) s (opponent d) ≡ false → attacks (put_back board m (man d j)) s (opponent d) ≡ false
no-more d board m j k s p free =
    attacks-less (put_back board m (man d j)) (put_back board m (man d k)) s (opponent d) (own-same d board m j (man d k) p) (λ x empty. sym (full-same d board m j k p x) ∙ empty) free

attacks-same : (d : Colour) (board : Places) (m : Move) (j k : Kind) (s : ℕ) → IsPlain board (opponent d) m → attacks (put_back board m (man d j)) s (opponent d) ≡ attacks (put_back board m (man d k)) s (opponent d)
attacks-same d board m j k s p =
    same_truth _ _ (λ h. true_from_ne_false _ (λ free. both_ways _ (no-more d board m j k s p free) h)) (λ h. true_from_ne_false _ (λ free. both_ways _ (no-more d board m k j s p free) h))

pub fits-taken : (q : Asked) (f : QueryFacts) (m : Move) (k : Kind) → AreFacts q f → IsPlain q.board (mover q) m → obeys q m ≡ true → same_kind King k ≡ false → is_retraction q (taking m (Some k)) ≡ ((goes_plainly (put_back q.board m (man q.turn Pawn)) (mover q) m && not (starts_on_end q.board m) && not (attacks (put_back q.board m (man q.turn Pawn)) f.king (mover q))) && (has_room f.allowed f.men k m.to && not (same_kind Pawn k && is_end m.to)))
fits-taken q f m k n p asked other =
    let c : Colour = mover q in
    let taken : Option Man = man q.turn k in
    let board : Places = put_back q.board m taken in
    let pawn : Places = put_back q.board m (man q.turn Pawn) in
    let t : IsTaken c taken = record { not_own = not-mine q.turn k; no_king = other } in
    let account : accounts_for q.odds board q.turn ≡ has_room f.allowed f.men k m.to =
    account-taken q.odds q.turn c k q.board m p (other-colour q.turn (at q.board m.to) p.own) other
    ∙ ap (λ (a : Allowance). has_room a (counts_of q.turn q.board) k m.to) (sym n.allowed_is) ∙ ap (λ (x : Counts). has_room f.allowed x k m.to) (sym n.men_are) in
    let goes : goes_plainly board c m ≡ goes_plainly pawn c m =
    goes-same board pawn c m (at-origin q.board c m taken p ∙ sym (at-origin q.board c m (man q.turn Pawn) p))
    (ap (is_of (opponent c)) (at-target q.board c m taken p) ∙ is-mine q.turn k ∙ sym (ap (is_of (opponent c)) (at-target q.board c m (man q.turn Pawn) p) ∙ is-mine q.turn Pawn))
    (full-same q.turn q.board m k Pawn p) in
    let hit : attacks board f.king c ≡ attacks pawn f.king c = attacks-same q.turn q.board m k Pawn f.king p in
    listed-plain q f m (Some k) taken (captured-man q.turn (at q.board m.to) k p.own) n p asked t
    ∙ ap (λ (b : Bool). b && (accounts_for q.odds board q.turn && (not (starts_on_end q.board m) && not (same_kind Pawn k && is_end m.to)) && not (attacks board f.king c))) goes
    ∙ ap (λ (b : Bool). goes_plainly pawn c m && (b && (not (starts_on_end q.board m) && not (same_kind Pawn k && is_end m.to)) && not (attacks board f.king c))) account
    ∙ ap (λ (b : Bool). goes_plainly pawn c m && (has_room f.allowed f.men k m.to && (not (starts_on_end q.board m) && not (same_kind Pawn k && is_end m.to)) && not b)) hit
    ∙ shuffled (goes_plainly pawn c m) (has_room f.allowed f.men k m.to) (not (starts_on_end q.board m)) (not (same_kind Pawn k && is_end m.to)) (not (attacks pawn f.king c))

-- a move that answers no double step captures nothing en passant
pub fits-none : (q : Asked) (m : Move) → double_of m (mover q) ≡ None → is_retraction q (taking_en_passant m) ≡ false
fits-none q m none = false_from_ne_true _ (λ h. both_ways _ (sym (wrongly-marked (before q (taking_en_passant m)) (mover q) (taking_en_passant m) refl none)) (fitted q (taking_en_passant m) h).marked)

pub same-seven : (a b d e f g h a' b' d' e' f' g' h' : Bool) → a ≡ a' → b ≡ b' → d ≡ d' → e ≡ e' → f ≡ f' → g ≡ g' → h ≡ h' → let l : List Bool = a ∷ b ∷ d ∷ e ∷ f ∷ g ∷ h ∷ [] in l ≡ a' ∷ b' ∷ d' ∷ e' ∷ f' ∷ g' ∷ h' ∷ []
same-seven a b d e f g h a' b' d' e' f' g' h' ea eb ed ee ef eg eh = cc

officer-taken : (q : Asked) (f : QueryFacts) (m : Move) (k : Kind) (takes : Bool) → AreFacts q f → IsPlain q.board (mover q) m → obeys q m ≡ true → same_kind King k ≡ false → same_kind Pawn k ≡ false → takes ≡ goes_soundly (put_back q.board m (man q.turn Pawn)) q f.king m → (takes && has_room f.allowed f.men k m.to) ≡ is_retraction q (taking m (Some k))
officer-taken q f m k takes n p asked other officer e =
    ap (λ (b : Bool). takes && b) (sym (and-true (has_room f.allowed f.men k m.to)) ∙ ap (λ (b : Bool). has_room f.allowed f.men k m.to && not (b && is_end m.to)) (sym officer))
    ∙ ap (λ (b : Bool). b && (has_room f.allowed f.men k m.to && not (same_kind Pawn k && is_end m.to))) e
    ∙ sym (fits-taken q f m k n p asked other)

-- what is computed of the seven candidates of a move is what the list says of them
pub seven-fitting : (q : Asked) (f : QueryFacts) (m : Move) (quiet takes passes : Bool) → AreFacts q f → IsPlain q.board (mover q) m → obeys q m ≡ true → quiet ≡ goes_soundly (put_back q.board m None) q f.king m → takes ≡ goes_soundly (put_back q.board m (man q.turn Pawn)) q f.king m → passes ≡ is_retraction q (taking_en_passant m) → AreFitting q m ((quiet && nat_le (excess_of f.men f.allowed) f.allowed.pawns) ∷ (takes && (has_room f.allowed f.men Pawn m.to && not (is_end m.to))) ∷ (takes && has_room f.allowed f.men Knight m.to) ∷ (takes && has_room f.allowed f.men Bishop m.to) ∷ (takes && has_room f.allowed f.men Rook m.to) ∷ (takes && has_room f.allowed f.men Queen m.to) ∷ passes ∷ [])
seven-fitting q f m quiet takes passes n p asked eq et ep =
    same-seven _ _ _ _ _ _ _ _ _ _ _ _ _ _
    (ap (λ (b : Bool). quiet && b) (sym (and-true (nat_le (excess_of f.men f.allowed) f.allowed.pawns))) ∙ ap (λ (b : Bool). b && (nat_le (excess_of f.men f.allowed) f.allowed.pawns && true)) eq ∙ sym (fits-quiet q f m n p asked))
    (ap (λ (b : Bool). b && (has_room f.allowed f.men Pawn m.to && not (is_end m.to))) et ∙ sym (fits-taken q f m Pawn n p asked refl))
    (officer-taken q f m Knight takes n p asked refl refl et)
    (officer-taken q f m Bishop takes n p asked refl refl et)
    (officer-taken q f m Rook takes n p asked refl refl et)
    (officer-taken q f m Queen takes n p asked refl refl et)
    ep

unlisted : (q : Asked) (u : Unmove) → (fits_ends q u && obeys q u.mv) ≡ false → is_retraction q u ≡ false
unfolding is_retraction
unlisted q u h = and_left _ _ (and_left _ _ (and_left _ _ (and_left _ _ h)))

-- without empty origin and man on the target, or against what the query asks, none is
pub none-fitting : (q : Asked) (m : Move) → (fits_ends q (taking m None) && obeys q m) ≡ false → AreFitting q m (false ∷ false ∷ false ∷ false ∷ false ∷ false ∷ false ∷ [])
none-fitting q m h =
    same-seven _ _ _ _ _ _ _ _ _ _ _ _ _ _
    (sym (unlisted q (taking m None) h)) (sym (unlisted q (taking m (Some Pawn)) h)) (sym (unlisted q (taking m (Some Knight)) h)) (sym (unlisted q (taking m (Some Bishop)) h)) (sym (unlisted q (taking m (Some Rook)) h)) (sym (unlisted q (taking m (Some Queen)) h)) (sym (unlisted q (taking_en_passant m) h))

-- where the man comes so neither to an empty target nor to a pawn, only the capture en passant may be listed
pub none-come : (q : Asked) (f : QueryFacts) (m : Move) → AreFacts q f → IsPlain q.board (mover q) m → (goes_plainly (put_back q.board m None) (mover q) m && not (starts_on_end q.board m)) ≡ false → (goes_plainly (put_back q.board m (man q.turn Pawn)) (mover q) m && not (starts_on_end q.board m)) ≡ false → AreFitting q m (false ∷ false ∷ false ∷ false ∷ false ∷ false ∷ is_retraction q (taking_en_passant m) ∷ [])
none-come q f m n p quiet strike = elim (cases_Bool (obeys q m)) [
  | inl asked ↦ seven-fitting q f m false false (is_retraction q (taking_en_passant m)) n p asked (sym (and_left _ _ quiet)) (sym (and_left _ _ strike)) refl
  | inr against ↦
      let none : (fits_ends q (taking m None) && obeys q m) ≡ false = and_right _ _ against in
      same-seven _ _ _ _ _ _ _ _ _ _ _ _ _ _
      (sym (unlisted q (taking m None) none)) (sym (unlisted q (taking m (Some Pawn)) none)) (sym (unlisted q (taking m (Some Knight)) none)) (sym (unlisted q (taking m (Some Bishop)) none)) (sym (unlisted q (taking m (Some Rook)) none)) (sym (unlisted q (taking m (Some Queen)) none)) refl
]

-- he is looked for only where the man comes so at all
pub absorbed : (a b n : Bool) → (a && ((a || b) && n)) ≡ (a && n)
absorbed true b n = refl
absorbed false b n = refl

passes-pawn : (board : Places) (c : Colour) (last : Option Move) (m : Move) → pawn_captures_en_passant board c last m ≡ true → is_a Pawn (at board m.from) ≡ true
unfolding pawn_captures_en_passant
passes-pawn board c last m h = (and_parts _ _ (and_parts _ _ h).0).0

-- and only a pawn does
pub fits-other : (q : Asked) (m : Move) → length q.board ≡ 64 → is_a Pawn (at q.board m.to) ≡ false → is_retraction q (taking_en_passant m) ≡ false
fits-other q m whole other = false_from_ne_true _ (λ h.
    let u : Unmove = taking_en_passant m in
    let p = fitted q u h in
    let c : Colour = mover q in
    let board : Places = before q u in
    let l = legality_of q u p in
    let passes : pawn_captures_en_passant board c (double_of m c) m ≡ true = marked-passes board c m (Some Pawn) p.marked in
    let k : Captures board c m = captures board c (double_of m c) m passes in
    let there : at (play board m) m.to ≡ promoted m.promo (at board m.from) = (came board c every_right (answered u c) m true k.goes (λ _. k) (placed board c every_right (answered u c) m (length-back q.board u ∙ whole) l) l).there in
    let same : at q.board m.to ≡ at board m.from = ap (λ (b : Places). at b m.to) (sym p.here) ∙ there ∙ ap (λ (o : Option Kind). promoted o (at board m.from)) k.no_promo in
    both_ways _ other (ap (is_a Pawn) same ∙ passes-pawn board c (double_of m c) m passes))

-- who attacks with the man put back, and not with him taken off, is he
pub alone-but : (d : Colour) (board : Places) (m : Move) (s : ℕ) → IsPlain board (opponent d) m → attacks (set board m.to None) s (opponent d) ≡ false → attacks_from (put_back board m None) m.from s ≡ attacks (put_back board m None) s (opponent d)
alone-but d board m s p free =
    let before : Places = put_back board m None in
    let whole = p.whole in
    let small = p.to in
    let gone : at (set board m.to None) m.to ≡ None = get_or-set_same board m.to None None (omega arith) in
    same_truth _ _
    (λ h. hit-attacks before (opponent d) s m.from p.from (and_from _ _ (ap (is_of (opponent d)) (at-origin board (opponent d) m None p) ∙ p.own) h))
    (λ h. true_from_ne_false _ (λ quiet. both_ways _ (attacks-but before (set board m.to None) s m.from (opponent d)
    (λ x f own. elim (cases_eq x m.to) [
      | inl same ↦ ap (at before) same ∙ at-target board (opponent d) m None p ∙ sym gone ∙ ap (at (set board m.to None)) (sym same)
      | inr t ↦ at-other board m None x f t ∙ sym (get_or-set_other board m.to x None None t)
    ])
    (λ x empty. elim (cases_eq x m.to) [
      | inl same ↦ ap is_empty (ap (at (set board m.to None)) same ∙ gone)
      | inr t ↦ elim (cases_eq x m.from) [
        | inl here ↦ ap is_empty (get_or-set_other board m.to x None None t ∙ ap (at board) here ∙ p.origin)
        | inr f ↦ ap is_empty (get_or-set_other board m.to x None None t ∙ sym (at-other board m None x f t)) ∙ empty
      ]
    ])
    quiet free) h))
