-- A mark more makes no other mark less forced.
use Rattle.std.proofs.Common.{◌≡◌, ℕ, suc, ◌+◌, ◌<◌, ◌==◌, inl, inr, Bool, true, false, cond, ◌&&◌, ◌||◌, not, List, [], ◌∷◌, refl, ap, sym, ◌∙◌, subst, arith}
use Rattle.std.proofs.lemmas.Bool.{and_from, and_parts, eqb-true, lt-ltb, or_cases, or_left, or_right, both_ways}
use Rattle.std.specs.Prelude.{Some}
use Rattle.std.specs.List.{AllZip, Contains, list_all, list_any}
use Rattle.board_base.specs.Attacks.{files_apart, one_ahead}
use Rattle.board_base.specs.Board.{file, is_in}
use Rattle.board_base.specs.Rights.{Rights}
use Rattle.board_base.specs.declared.men.Colour.{Colour}
use Rattle.board_base.specs.declared.men.Colour.TheVariants.{White, Black}
use Rattle.board_base.specs.declared.men.Kind.{Kind}
use Rattle.board_base.specs.declared.men.Kind.TheVariants.{Pawn, Knight, Bishop, Rook, Queen, King}
use Rattle.play_rules.specs.Reach.{IsWithin}
use Rattle.play_rules.proofs.Skipped.{same-file}
use Rattle.figures.specs.Frozen.{is_entry, is_past_home, is_plain_entry}
use Rattle.figures.specs.Sets.{squares_that}
use Rattle.sketch_account.specs.Ways.{is_pawn_step}
use Rattle.figures.specs.Figures.{Figure, Sketch, each_changed, figure_at, fixed_squares, is_fixed_on}
use Rattle.figures.specs.Known.{marked_at}
use Rattle.sketch_account.specs.Account.{Counted, against, counted_by, mark_limit}
use Rattle.sketch_account.specs.Closes.{Forces}
use Rattle.sketch_account.specs.Frozen.{IsFrozenIn, enters_as, figure_enters}
use Rattle.sketch_account.specs.Limits.{Limit, any, other, plain}
use Rattle.sketch_account.specs.Zones.{AreZones, IsZone, Room, goes_on, may_hold, room_past}
use Rattle.sketch_rule.proofs.Narrowed.{changed-there}
use Rattle.sketch_node.proofs.Dearer.{IsLooser, IsTighter, side-le}

abbrev pub marked_if : Bool → Figure → Figure
marked_if b f = cond b (record f { marked = true }) f

-- who may have come so with a mark may have without
plain-enters : (c : Colour) (k : Kind) (s t : ℕ) → is_plain_entry c k s t ≡ true → is_entry c k s t ≡ true
unfolding is_entry is_plain_entry
plain-enters c Pawn s t h =
    let parts = and_parts (is_past_home c s) (one_ahead c t s && (file s == file t)) h in
    let straight = and_parts (one_ahead c t s) (file s == file t) parts.1 in
    and_from _ _ parts.0 (and_from _ _ straight.0 (lt-ltb _ _ (same-file s t (eqb-true (file s) (file t) straight.1))))
plain-enters c Knight s t h = or_left _ _ h
plain-enters c Bishop s t h = or_left _ _ h
plain-enters c Rook s t h = or_left _ _ h
plain-enters c Queen s t h = or_left _ _ h
plain-enters c King s t h = h

unmarked-enters : (b : Bool) (c : Colour) (k : Kind) (s t : ℕ) → enters_as true c k s t ≡ true → enters_as b c k s t ≡ true
unmarked-enters true c k s t h = h
unmarked-enters false c k s t h = plain-enters c k s t h

any-more : (p q : Kind → Bool) (kinds : List Kind) → ((k : Kind) → p k ≡ true → q k ≡ true) → list_any p kinds ≡ true → list_any q kinds ≡ true
any-more p q [] more h = h
any-more p q (k ∷ kinds) more h = elim (or_cases (p k) (list_any p kinds) h) [
  | inl here ↦ or_left (q k) (list_any q kinds) (more k here)
  | inr later ↦ or_right (q k) (list_any q kinds) (any-more p q kinds more later)
]

enters-less : (b : Bool) (f : Figure) (s t : ℕ) → figure_enters (marked_if b f) s t ≡ true → figure_enters f s t ≡ true
enters-less true f s t h = any-more (λ k. enters_as true f.colour k s t) (λ k. enters_as f.marked f.colour k s t) f.kinds (λ k. unmarked-enters f.marked f.colour k s t) h
enters-less false f s t h = h

fixed-same : (b : Bool) (s : ℕ) (f : Figure) → is_fixed_on s (marked_if b f) ≡ is_fixed_on s f
fixed-same true s f = refl
fixed-same false s f = refl

-- with a mark more the figures are fixed on the same squares
any-fixed : (j k s : ℕ) (S : Sketch) → list_any (is_fixed_on s) (each_changed (λ n f. marked_if (n == j) f) k S) ≡ list_any (is_fixed_on s) S
any-fixed j k s [] = refl
any-fixed j k s (f ∷ S) =
    ap (λ (b : Bool). b || list_any (is_fixed_on s) (each_changed (λ n f. marked_if (n == j) f) (suc k) S)) (fixed-same (k == j) s f)
    ∙ ap (λ (b : Bool). is_fixed_on s f || b) (any-fixed j (suc k) s S)

fixed-squares : (j : ℕ) (S : Sketch) → fixed_squares (marked_at j S) ≡ fixed_squares S
unfolding marked_at fixed_squares
fixed-squares j S = λ i. squares_that (λ s. any-fixed j 0 s S i)

marked-there : (j : ℕ) (S : Sketch) (i : ℕ) (f : Figure) → figure_at S i ≡ Some f → figure_at (marked_at j S) i ≡ Some (marked_if (0 + i == j) f)
unfolding marked_at
marked-there j S i f there = changed-there (λ n f. marked_if (n == j) f) 0 S i f there

-- a frozen set is one with a mark more
frozen-more : (held : Rights) (j : ℕ) (S : Sketch) (set : List Bool) → IsFrozenIn held S set → IsFrozenIn held (marked_at j S) set
frozen-more held j S set_ frozen s member =
    let b = frozen s member in
    let f : Figure = b.figure in
    let test : Bool = 0 + b.number == j in
    record {
      number = b.number;
      figure = marked_if test f;
      there = marked-there j S b.number f b.there;
      fixed = fixed-same test s f ∙ b.fixed;
      barred = elim b.barred [ inl home ↦ inl home | inr shut ↦ inr (λ t inside enters. shut t inside (enters-less test f s t enters)) ];
    }

-- a zone is one with a mark more
zone-more : (b : Bool) (set : List Bool) (f : Figure) (zone : List Bool) → IsZone set f zone → IsZone set (marked_if b f) zone
zone-more true set_ f zone is = record {
  pawn = is.pawn;
  squares = is.squares;
  closed = λ z t member goes.
      let parts = and_parts (may_hold set_ z && is_pawn_step f.colour set_ z t) (file z == file t) goes in
      is.closed z t member (and_from _ _ parts.0 (or_right (not f.marked) (file z == file t) parts.1));
}
zone-more false set_ f zone is = is

zones-more : (j : ℕ) (S : Sketch) (set : List Bool) (zones : List (List Bool)) → AreZones set S zones → AreZones set (marked_at j S) zones
zones-more j S set_ zones are zone member =
    let it = are zone member in
    (it.0, marked_if (0 + it.0 == j) it.1, marked-there j S it.0 it.1 it.2, zone-more (0 + it.0 == j) set_ it.1 zone it.3)

-- what a mark says leaves less open
tighter-same : (l : Limit) → IsTighter l l
tighter-same l = record { ways = λ b h. h; plain = refl }

tighter-plain : (l : Limit) (b : Bool) → l ≡ cond b plain any → IsTighter l plain
tighter-plain l true e = subst (λ (m : Limit). IsTighter m plain) (sym e) (tighter-same plain)
tighter-plain l false e = subst (λ (m : Limit). IsTighter m plain) (sym e) (record { ways = λ b h. refl; plain = refl })

marked-tighter : (against_ b : Bool) (f : Figure) → IsTighter (cond against_ other (mark_limit f)) (cond against_ other (mark_limit (marked_if b f)))
marked-tighter true b f = tighter-same other
marked-tighter false true f = tighter-plain (mark_limit f) f.marked refl
marked-tighter false false f = tighter-same (mark_limit f)

counted-looser : (limit more : ℕ → Figure → Limit) (j k : ℕ) (S : Sketch) → ((i n : ℕ) (f : Figure) → IsTighter (limit i f) (more i (marked_if (n == j) f))) → AllZip IsLooser (counted_by limit S) (counted_by more (each_changed (λ n f. marked_if (n == j) f) k S))
counted-looser limit more j k [] tighter = tt
counted-looser limit more j k (f ∷ S) tighter = (one-looser (k == j) f (limit 0 f) (more 0 (marked_if (k == j) f)) (tighter 0 k f), counted-looser (λ i. limit (suc i)) (λ i. more (suc i)) j (suc k) S (λ i. tighter (suc i)))
  where
    one-looser : (b : Bool) (f : Figure) (l m : Limit) → IsTighter l m → IsLooser (record { figure = f; limit = l }) (record { figure = marked_if b f; limit = m })
    one-looser true f l m tighter = record { colour = refl; kinds = refl; squares = refl; limit = tighter }
    one-looser false f l m tighter = record { colour = refl; kinds = refl; squares = refl; limit = tighter }

against-looser : (i j : ℕ) (S : Sketch) → AllZip IsLooser (against i S) (against i (marked_at j S))
unfolding marked_at
against-looser i j S = counted-looser (λ n f. cond (n == i) other (mark_limit f)) (λ n f. cond (n == i) other (mark_limit f)) j 0 S (λ n m f. marked-tighter (n == i) (m == j) f)

pub forces-more : (o : List Bool) (held : Rights) (i j : ℕ) (S : Sketch) → Forces o held i S → Forces o held i (marked_at j S)
forces-more o held i j S it =
    let R : Room = room_past it.set it.zones in
    let zip : AllZip IsLooser (against i S) (against i (marked_at j S)) = against-looser i j S in
    record {
      set = it.set;
      zones = it.zones;
      prices = it.prices;
      frozen = frozen-more held j S it.set it.frozen;
      forced = record {
        fixed = subst (IsWithin it.set) (sym (fixed-squares j S)) it.forced.fixed;
        zones_are = zones-more j S it.set it.zones it.forced.zones_are;
        prices = it.forced.prices;
        above = omega (arith, it.forced.above, side-le o it.prices it.set R White (against i S) (against i (marked_at j S)) zip, side-le o it.prices it.set R Black (against i S) (against i (marked_at j S)) zip);
      };
    }
