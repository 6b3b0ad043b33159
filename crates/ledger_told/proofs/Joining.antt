-- The lines of a ledger, one behind the other.
use Rattle.std.proofs.Common.{◌≡◌, ℕ, ◌+◌, suc, List, [], ◌++◌, refl, ap, sym, subst, ◌∙◌, arith, append_assoc, append-nil}
use Rattle.std.specs.Prelude.{Bool, Option, Result, Ok, Err, OnOk}
use Rattle.board_base.specs.declared.men.Colour.{Colour}
use Rattle.board_base.specs.declared.men.Colour.TheVariants.{White, Black}
use Rattle.query_base.specs.Asked.{Asked}
use Rattle.ledger_search.specs.declared.ledgers.Ledger.{Ledger}
use Rattle.ledger_lines.specs.declared.lines.Line.{Line}
use Rattle.ledger_told.specs.Due.{IsSquareLine}
use Rattle.ledger_told.specs.Told.{TellsAll, TellsAmong, TellsFirst, TellsWhole, Then, one_line}
use Rattle.ledger_told.specs.declared.topics.Breed.TheVariants.{Queens, Rooks, DarkBishops, LightBishops, Knights}
use Rattle.ledger_told.specs.declared.topics.Group.TheVariants.{Ahead, Original}
use Rattle.ledger_told.specs.declared.topics.Whole.TheVariants.{Unmoved, Lacks, Captures, Those, Among}
use Rattle.ledger_told.specs.declared.topics.Topic.{Topic}
use Rattle.ledger_told.specs.declared.topics.Topic.TheVariants.{Pawns, Men, Officers, Falls, Promotions}

-- lines behind those that stood there
abbrev pub Adds : (List Line → Type 0) → List Line → List Line → Type 0
Adds Tells old new = (xs : List Line) × Tells xs × (new ≡ old ++ xs)

-- more lines behind these
joined-lines : (xs ys old mid new : List Line) → mid ≡ old ++ xs → new ≡ mid ++ ys → new ≡ old ++ (xs ++ ys)
joined-lines xs ys old mid new first last = last ∙ ap (λ (l : List Line). l ++ ys) first ∙ append_assoc old xs ys

-- lines behind none
pub alone : (P : List Line → Type 0) (old new : List Line) → old ≡ [] → Adds P old new → P new
alone P old new none told = subst P (sym (told.2 ∙ ap (λ (l : List Line). l ++ told.0) none)) told.1

pub first-none : (topic : Topic) (q : Asked) (l : Ledger) (old : List Line) → Adds (TellsFirst topic q l 0) old old
unfolding TellsFirst
first-none topic q l old = ([], refl, sym (append-nil old))

suc-told : (topic : Topic) (q : Asked) (l : Ledger) (n : ℕ) (xs : List Line) (line : Option Line) → TellsFirst topic q l n xs → IsSquareLine topic q l n line → TellsFirst topic q l (suc n) (xs ++ one_line line)
unfolding TellsFirst
suc-told topic q l n xs line before here = (xs, line, before, here, refl)

pub first-more : (topic : Topic) (q : Asked) (l : Ledger) (n : ℕ) (line : Option Line) (old mid new : List Line) → Adds (TellsFirst topic q l n) old mid → IsSquareLine topic q l n line → new ≡ mid ++ one_line line → Adds (TellsFirst topic q l (n + 1)) old new
first-more topic q l n line old mid new before here last =
    let e : suc n ≡ n + 1 = omega arith in
    (before.0 ++ one_line line, subst (λ (k : ℕ). TellsFirst topic q l k (before.0 ++ one_line line)) e (suc-told topic q l n before.0 line before.1 here), joined-lines before.0 (one_line line) old mid new before.2 last)

pub first-whole : (topic : Topic) (q : Asked) (l : Ledger) (n m : ℕ) (old new : List Line) → n ≡ m → Adds (TellsFirst topic q l n) old new → Adds (TellsFirst topic q l m) old new
first-whole topic q l n m old new e told = subst (λ (k : ℕ). Adds (TellsFirst topic q l k) old new) e told

-- some lines, and others behind them
pub then-adds : (P Q : List Line → Type 0) (a b c : List Line) → Adds P a b → Adds Q b c → Adds (Then P Q) a c
then-adds P Q a b c first last = (first.0 ++ last.0, record { front = first.0; rest = last.0; first = first.1; last = last.1; all = refl }, joined-lines first.0 last.0 a b c first.2 last.2)

pub among-told : (c : Colour) (q : Asked) (l : Ledger) (set : List Bool) (t0 t1 t2 t3 t4 t5 : List Line) → Adds (TellsWhole (Among c Queens) q l set) t0 t1 → Adds (TellsWhole (Among c Rooks) q l set) t1 t2 → Adds (TellsWhole (Among c DarkBishops) q l set) t2 t3 → Adds (TellsWhole (Among c LightBishops) q l set) t3 t4 → Adds (TellsWhole (Among c Knights) q l set) t4 t5 → Adds (TellsAmong c q l set) t0 t5
among-told c q l set t0 t1 t2 t3 t4 t5 queens rooks dark light knights = then-adds _ _ _ _ _ queens (then-adds _ _ _ _ _ rooks (then-adds _ _ _ _ _ dark (then-adds _ _ _ _ _ light knights)))

pub all-told : (q : Asked) (l : Ledger) (set : List Bool) (t0 t1 t2 t3 t4 t5 t6 t7 t8 t9 t10 t11 t12 t13 t14 t15 t16 t17 : List Line) → Adds (TellsWhole Unmoved q l set) t0 t1 → Adds (TellsWhole (Lacks White) q l set) t1 t2 → Adds (TellsWhole (Lacks Black) q l set) t2 t3 → Adds (TellsWhole (Captures White) q l set) t3 t4 → Adds (TellsWhole (Captures Black) q l set) t4 t5 → Adds (TellsFirst (Pawns White) q l 64) t5 t6 → Adds (TellsFirst (Pawns Black) q l 64) t6 t7 → Adds (TellsFirst (Men White) q l 64) t7 t8 → Adds (TellsFirst (Men Black) q l 64) t8 t9 → Adds (TellsWhole (Those Ahead) q l set) t9 t10 → Adds (TellsWhole (Those Original) q l set) t10 t11 → Adds (TellsFirst (Officers White) q l 64) t11 t12 → Adds (TellsFirst (Officers Black) q l 64) t12 t13 → Adds (TellsAmong White q l set) t13 t14 → Adds (TellsAmong Black q l set) t14 t15 → Adds (TellsFirst (Falls set) q l 64) t15 t16 → Adds (TellsFirst Promotions q l 64) t16 t17 → Adds (TellsAll q l set) t0 t17
all-told q l set t0 t1 t2 t3 t4 t5 t6 t7 t8 t9 t10 t11 t12 t13 t14 t15 t16 t17 a0 a1 a2 a3 a4 a5 a6 a7 a8 a9 a10 a11 a12 a13 a14 a15 a16 =
    then-adds _ _ _ _ _ a0
    (then-adds _ _ _ _ _ a1
    (then-adds _ _ _ _ _ a2
    (then-adds _ _ _ _ _ a3
    (then-adds _ _ _ _ _ a4
    (then-adds _ _ _ _ _ a5
    (then-adds _ _ _ _ _ a6
    (then-adds _ _ _ _ _ a7
    (then-adds _ _ _ _ _ a8
    (then-adds _ _ _ _ _ a9
    (then-adds _ _ _ _ _ a10
    (then-adds _ _ _ _ _ a11
    (then-adds _ _ _ _ _ a12
    (then-adds _ _ _ _ _ a13
    (then-adds _ _ _ _ _ a14
    (then-adds _ _ _ _ _ a15
    a16)))))))))))))))

pub ok_then : {E : Type 0} (r : Result (Unit {0}) E) (P Q : Type 0) → (P → Q) → OnOk r P → OnOk r Q
ok_then (Ok u) P Q f p = f p
ok_then (Err e) P Q f p = p
