-- What is read of a text stands in it, part by part.
use Rattle.std.proofs.Common.{◌≡◌, ◌<◌, ◌+◌, ◌/◌, ◌%◌, ◌==◌, ◌⊎◌, inl, inr, ℕ, Bool, true, false, cond, ◌&&◌, List, [], ◌∷◌, ◌++◌, refl, sym, ap, ◌∙◌, subst, arith, option_map}
use Rattle.std.proofs.lemmas.Bool.{and_parts, eqb-true, leb-true}
use Rattle.std.proofs.lemmas.Option.{cond_some}
use Rattle.std.specs.Prelude.{Option, Some, None, is_some}
use Rattle.general_lemmas.proofs.Options.{when, unless}
use Rattle.board_base.specs.Texts.{◌>>=◌, square_at, square_text}
use Rattle.board_base.specs.declared.men.Kind.{Kind}
use Rattle.board_base.specs.declared.men.Kind.TheVariants.{Pawn, Knight, Bishop, Rook, Queen, King}
use Rattle.san_text.specs.Forms.{CanBecome, IsForm, SaysSo}
use Rattle.san_text.specs.Grammar.{is_end, target_of, file_of, rank_of, first, after, file_head, after_file, rank_head, after_rank, takes_head, after_takes, piece_goes, piece_of, promoted_of, piece_letter, promotion_of, pawn_goes, pawn_end, pawn_of, castling_end, castling_of, man_of, san_of}
use Rattle.san_text.specs.Small.{IsSmall}
use Rattle.san_text.specs.Spelling.{capital, file_text, rank_text, takes_text, promotion_text, said_text}
use Rattle.san_text.specs.declared.grammar.San.{San}
use Rattle.san_text.specs.declared.grammar.San.TheVariants.{Short, Long, Goes}
use Rattle.san_text.proofs.Backs.{IsPiece, joined, pawn_joined, said_piece, said_pawn, said_short, said_long}
use Rattle.board_base.proofs.TextLemmas.{bound_some, mapped_some}

either : {A : Type 0} (b : Bool) (o p : Option A) (y : A) → cond b o p ≡ Some y → ((b ≡ true) × (o ≡ Some y)) ⊎ (p ≡ Some y)
either {A} true o p y e = inl (refl, e)
either {A} false o p y e = inr e

same : {A : Type 0} (x y : A) → Some x ≡ Some y → x ≡ y
same {A} x y e = cc

file_form : (b f : ℕ) → file_of b ≡ Some f → (f < 8) × (b ≡ 97 + f)
file_form b f e =
    let is = cond_some _ _ _ e in
    let both = and_parts _ _ is.0 in
    let low = leb-true 97 b both.0 in
    let high = leb-true b 104 both.1 in
    let value = is.1 in
    (omega arith, omega arith)

rank_form : (b r : ℕ) → rank_of b ≡ Some r → (r < 8) × (b ≡ 49 + r)
rank_form b r e =
    let is = cond_some _ _ _ e in
    let both = and_parts _ _ is.0 in
    let low = leb-true 49 b both.0 in
    let high = leb-true b 56 both.1 in
    let value = is.1 in
    (omega arith, omega arith)

square_form : (a b t : ℕ) → square_at a b ≡ Some t → (t < 64) × (a ∷ b ∷ [] ≡ square_text t)
square_form a b t e =
    let is = cond_some _ _ _ e in
    let three = and_parts _ _ is.0 in
    let two = and_parts _ _ three.0 in
    let one = and_parts _ _ two.0 in
    let a_low = leb-true 97 a one.0 in
    let a_high = leb-true a 104 one.1 in
    let b_low = leb-true 49 b two.1 in
    let b_high = leb-true b 56 three.1 in
    let value = is.1 in
    let file : a ≡ 97 + t % 8 = omega arith in
    let rank : b ≡ 49 + t / 8 = omega arith in
    (omega arith, ap (λ (n : ℕ). n ∷ b ∷ []) file ∙ ap (λ (n : ℕ). (97 + t % 8) ∷ n ∷ []) rank)

file_split : (text : List ℕ) (o : Option ℕ) → ((f : ℕ) → o ≡ Some f → first file_of text ≡ Some f) → IsSmall o × (text ≡ file_text o ++ after o text)
file_split text None h = (tt, refl)
file_split [] (Some f) h = let e = h f refl in cc
file_split (b ∷ rest) (Some f) h = let is = file_form b f (h f refl) in (is.0, ap (λ (n : ℕ). n ∷ rest) is.1)

rank_split : (text : List ℕ) (o : Option ℕ) → ((r : ℕ) → o ≡ Some r → first rank_of text ≡ Some r) → IsSmall o × (text ≡ rank_text o ++ after o text)
rank_split text None h = (tt, refl)
rank_split [] (Some r) h = let e = h r refl in cc
rank_split (b ∷ rest) (Some r) h = let is = rank_form b r (h r refl) in (is.0, ap (λ (n : ℕ). n ∷ rest) is.1)

takes_as : (b : ℕ) (rest : List ℕ) (x : Bool) → (x ≡ true → b ≡ 120) → b ∷ rest ≡ takes_text x ++ cond x rest (b ∷ rest)
takes_as b rest true h = ap (λ (n : ℕ). n ∷ rest) (h refl)
takes_as b rest false h = refl

takes_split : (text : List ℕ) → text ≡ takes_text (takes_head text) ++ after_takes text
takes_split [] = refl
takes_split (b ∷ rest) = takes_as b rest (b == 120) (eqb-true b 120)

-- a sign, and what stands before it
record Ends (text front : List ℕ) : Type 0 where
  sign : List ℕ
  ends : is_end sign ≡ true
  is : text ≡ front ++ sign

target_form : (text : List ℕ) (t : ℕ) → target_of text ≡ Some t → (t < 64) × Ends text (square_text t)
target_form [] t e = cc
target_form (a ∷ []) t e = cc
target_form (a ∷ b ∷ rest) t e =
    let both = when (is_end rest) (square_at a b) t e in
    let square = square_form a b t both.1 in
    (square.0, record { sign = rest; ends = both.0; is = ap (λ (l : List ℕ). l ++ rest) square.1 })

piece_says : (k : Kind) (text : List ℕ) (said : San) → IsPiece k → piece_of k text ≡ Some said → IsForm said × ((sign : List ℕ) × (is_end sign ≡ true) × (capital k ++ text ≡ said_text said ++ sign))
unfolding piece_of
piece_says k text said piece e =
    let read = mapped_some _ _ said e in
    let f = file_head text in
    let r = rank_head (after_file text) in
    let x = takes_head (after_rank (after_file text)) in
    let to = read.0 in
    let target = target_form (after_takes (after_rank (after_file text))) to read.1 in
    let file = file_split text f (λ n h. (unless (is_some (target_of text)) (first file_of text) n h).1) in
    let rank = rank_split (after_file text) r (λ n h. h) in
    let takes = takes_split (after_rank (after_file text)) in
    let sign = target.1.sign in
    let whole : text ≡ file_text f ++ (rank_text r ++ (takes_text x ++ (square_text to ++ sign))) =
    file.1
    ∙ ap (λ (l : List ℕ). file_text f ++ l) (rank.1 ∙ ap (λ (l : List ℕ). rank_text r ++ l) (takes ∙ ap (λ (l : List ℕ). takes_text x ++ l) target.1.is)) in
    let here : capital k ++ text ≡ said_text (piece_goes k f r x to) ++ sign = ap (λ (l : List ℕ). capital k ++ l) whole ∙ sym (joined k f r x to sign) in (
      subst IsForm read.2 (piece_is k f r x to piece file.0 rank.0 target.0),
      (sign, target.1.ends, subst (λ (s : San). capital k ++ text ≡ said_text s ++ sign) read.2 here),
    )
  where
    piece_is : (k : Kind) (f r : Option ℕ) (x : Bool) (to : ℕ) → IsPiece k → IsSmall f → IsSmall r → to < 64 → IsForm (piece_goes k f r x to)
    piece_is Pawn f r x to piece small_f small_r low = absurd piece
    piece_is Knight f r x to piece small_f small_r low = (record { file = small_f; rank = small_r; to = low }, refl)
    piece_is Bishop f r x to piece small_f small_r low = (record { file = small_f; rank = small_r; to = low }, refl)
    piece_is Rook f r x to piece small_f small_r low = (record { file = small_f; rank = small_r; to = low }, refl)
    piece_is Queen f r x to piece small_f small_r low = (record { file = small_f; rank = small_r; to = low }, refl)
    piece_is King f r x to piece small_f small_r low = (record { file = small_f; rank = small_r; to = low }, refl)

-- a letter, and the kind that it names
record Letter (b : ℕ) (k : Kind) : Type 0 where
  piece : IsPiece k
  is : b ∷ [] ≡ capital k

letter_is : (b n : ℕ) (j k : Kind) → IsPiece j → n ∷ [] ≡ capital j → (b == n) ≡ true → Some j ≡ Some k → Letter b k
letter_is b n j k piece is e name =
    subst (Letter b) (same j k name) (record { piece = piece; is = ap (λ (c : ℕ). c ∷ []) (eqb-true b n e) ∙ is })

promoted_form : (b : ℕ) (k : Kind) → promoted_of b ≡ Some k → Letter b k × CanBecome (Some k)
promoted_form b k e = elim (either (b == 78) _ _ k e) [
  | inl is ↦ (letter_is b 78 Knight k tt refl is.0 is.1, subst (λ (j : Kind). CanBecome (Some j)) (same Knight k is.1) tt)
  | inr e2 ↦ elim (either (b == 66) _ _ k e2) [
    | inl is ↦ (letter_is b 66 Bishop k tt refl is.0 is.1, subst (λ (j : Kind). CanBecome (Some j)) (same Bishop k is.1) tt)
    | inr e3 ↦ elim (either (b == 82) _ _ k e3) [
      | inl is ↦ (letter_is b 82 Rook k tt refl is.0 is.1, subst (λ (j : Kind). CanBecome (Some j)) (same Rook k is.1) tt)
      | inr e4 ↦
          let is = when (b == 81) (Some Queen) k e4 in
          (letter_is b 81 Queen k tt refl is.0 is.1, subst (λ (j : Kind). CanBecome (Some j)) (same Queen k is.1) tt)
    ]
  ]
]

letter_form : (b : ℕ) (k : Kind) → piece_letter b ≡ Some k → Letter b k
letter_form b k e = elim (either (b == 75) _ _ k e) [
  | inl is ↦ letter_is b 75 King k tt refl is.0 is.1
  | inr other ↦ (promoted_form b k other).0
]

promotion_form : (text : List ℕ) (promo : Option Kind) → promotion_of text ≡ Some promo → CanBecome promo × Ends text (promotion_text promo)
promotion_form [] promo e = subst (λ (o : Option Kind). CanBecome o × Ends [] (promotion_text o)) (same None promo e) (tt, record { sign = []; ends = refl; is = refl })
promotion_form (c ∷ []) promo e =
    let both = when (is_end (c ∷ [])) (Some None) promo e in
    subst (λ (o : Option Kind). CanBecome o × Ends (c ∷ []) (promotion_text o)) (same None promo both.1) (tt, record { sign = c ∷ []; ends = both.0; is = refl })
promotion_form (a ∷ b ∷ rest) promo e =
    let both = when ((a == 61) && is_end rest) (option_map (λ k. Some k) (promoted_of b)) promo e in
    let parts = and_parts (a == 61) (is_end rest) both.0 in
    let named = mapped_some (λ k. Some k) (promoted_of b) promo both.1 in
    let letter = promoted_form b named.0 named.1 in
    let here : a ∷ b ∷ rest ≡ promotion_text (Some named.0) ++ rest =
    ap (λ (n : ℕ). n ∷ b ∷ rest) (eqb-true a 61 parts.0) ∙ ap (λ (l : List ℕ). 61 ∷ l ++ rest) letter.0.is in
    subst (λ (o : Option Kind). CanBecome o × Ends (a ∷ b ∷ rest) (promotion_text o)) named.2 (letter.1, record { sign = rest; ends = parts.1; is = here })

-- what is told of a pawn's target and of what follows it
record Pawned (file : Option ℕ) (text : List ℕ) (said : San) : Type 0 where
  to : ℕ
  promo : Option Kind
  sign : List ℕ
  low : to < 64
  becomes : CanBecome promo
  ends : is_end sign ≡ true
  is : text ≡ square_text to ++ promotion_text promo ++ sign
  said_is : pawn_goes file to promo ≡ said

pawn_end_form : (file : Option ℕ) (text : List ℕ) (said : San) → pawn_end file text ≡ Some said → Pawned file text said
pawn_end_form file [] said e = cc
pawn_end_form file (a ∷ []) said e = cc
pawn_end_form file (a ∷ b ∷ rest) said e =
    let square = bound_some (square_at a b) _ said e in
    let promo = mapped_some (pawn_goes file square.0) (promotion_of rest) said square.2 in
    let target = square_form a b square.0 square.1 in
    let becomes = promotion_form rest promo.0 promo.1 in
    record {
      to = square.0;
      promo = promo.0;
      sign = becomes.1.sign;
      low = target.0;
      becomes = becomes.0;
      ends = becomes.1.ends;
      is = ap (λ (l : List ℕ). l ++ rest) target.1 ∙ ap (λ (l : List ℕ). square_text square.0 ++ l) becomes.1.is;
      said_is = promo.2;
    }

pawn_says_so : (file : Option ℕ) (text front : List ℕ) (said : San) → IsSmall file → front ≡ file_text file ++ takes_text (is_some file) → Pawned file text said → IsForm said × ((sign : List ℕ) × (is_end sign ≡ true) × (front ++ text ≡ said_text said ++ sign))
pawn_says_so file text front said small is p =
    let here : front ++ text ≡ said_text (pawn_goes file p.to p.promo) ++ p.sign =
    ap (λ (l : List ℕ). l ++ text) is ∙ ap (λ (l : List ℕ). file_text file ++ takes_text (is_some file) ++ l) p.is ∙ grouped file p.to p.promo p.sign ∙ sym (pawn_joined file p.to p.promo p.sign) in (
      subst IsForm p.said_is (record { file = small; rank = tt; to = p.low }, record { rank = refl; takes = refl; becomes = p.becomes }),
      (p.sign, p.ends, subst (λ (s : San). front ++ text ≡ said_text s ++ p.sign) p.said_is here),
    )
  where
    grouped : (file : Option ℕ) (t : ℕ) (promo : Option Kind) (sign : List ℕ) → (file_text file ++ takes_text (is_some file)) ++ (square_text t ++ promotion_text promo ++ sign) ≡ file_text file ++ takes_text (is_some file) ++ square_text t ++ promotion_text promo ++ sign
    grouped None t promo sign = refl
    grouped (Some f) t promo sign = refl

pawn_says : (text : List ℕ) (said : San) → pawn_of text ≡ Some said → IsForm said × SaysSo text said
pawn_says [] said e = cc
pawn_says (a ∷ []) said e = cc
pawn_says (a ∷ b ∷ rest) said e = elim (either (b == 120) (file_of a >>= (λ file. pawn_end (Some file) rest)) (pawn_end None (a ∷ b ∷ rest)) said e) [
  | inl takes ↦
      let file = bound_some (file_of a) (λ file. pawn_end (Some file) rest) said takes.1 in
      let is = file_form a file.0 file.1 in
      pawn_says_so (Some file.0) rest (a ∷ b ∷ []) said is.0 (ap (λ (n : ℕ). n ∷ b ∷ []) is.1 ∙ ap (λ (n : ℕ). (97 + file.0) ∷ n ∷ []) (eqb-true b 120 takes.0)) (pawn_end_form (Some file.0) rest said file.2)
  | inr goes ↦ pawn_says_so None (a ∷ b ∷ rest) [] said tt refl (pawn_end_form None (a ∷ b ∷ rest) said goes)
]

short_says : (b a c : ℕ) (rest : List ℕ) (said : San) → b ∷ a ∷ c ∷ [] ≡ said_text Short → is_end rest ≡ true → Some Short ≡ Some said → IsForm said × SaysSo (b ∷ a ∷ c ∷ rest) said
short_says b a c rest said is ends e =
    subst (λ (s : San). IsForm s × SaysSo (b ∷ a ∷ c ∷ rest) s) (same Short said e) (tt, (rest, ends, ap (λ (l : List ℕ). l ++ rest) is))

castling_says : (b : ℕ) (rest : List ℕ) (said : San) → b ≡ 79 → castling_of rest ≡ Some said → IsForm said × SaysSo (b ∷ rest) said
castling_says b [] said is e = cc
castling_says b (a ∷ []) said is e = cc
castling_says b (a ∷ c ∷ rest) said is e =
    let both = when ((a == 45) && (c == 79)) (castling_end rest) said e in
    let parts = and_parts (a == 45) (c == 79) both.0 in
    let front : b ∷ a ∷ c ∷ [] ≡ said_text Short =
    ap (λ (n : ℕ). n ∷ a ∷ c ∷ []) is ∙ ap (λ (n : ℕ). 79 ∷ n ∷ c ∷ []) (eqb-true a 45 parts.0) ∙ ap (λ (n : ℕ). 79 ∷ 45 ∷ n ∷ []) (eqb-true c 79 parts.1) in
    ending b a c rest said front both.1
  where
    ending : (b a c : ℕ) (rest : List ℕ) (said : San) → b ∷ a ∷ c ∷ [] ≡ said_text Short → castling_end rest ≡ Some said → IsForm said × SaysSo (b ∷ a ∷ c ∷ rest) said
    ending b a c [] said front e = short_says b a c [] said front refl e
    ending b a c (d ∷ []) said front e = let both = when (is_end (d ∷ [])) (Some Short) said e in short_says b a c (d ∷ []) said front both.0 both.1
    ending b a c (d ∷ f ∷ rest) said front e =
        let both = when ((d == 45) && (f == 79) && is_end rest) (Some Long) said e in
        let parts = and_parts ((d == 45) && (f == 79)) (is_end rest) both.0 in
        let more = and_parts (d == 45) (f == 79) parts.0 in
        let whole : b ∷ a ∷ c ∷ d ∷ f ∷ rest ≡ said_text Long ++ rest =
        ap (λ (l : List ℕ). l ++ d ∷ f ∷ rest) front ∙ ap (λ (n : ℕ). 79 ∷ 45 ∷ 79 ∷ n ∷ f ∷ rest) (eqb-true d 45 more.0) ∙ ap (λ (n : ℕ). 79 ∷ 45 ∷ 79 ∷ 45 ∷ n ∷ rest) (eqb-true f 79 more.1) in
        subst (λ (s : San). IsForm s × SaysSo (b ∷ a ∷ c ∷ d ∷ f ∷ rest) s) (same Long said both.1) (tt, (rest, parts.1, whole))

man_says : (o : Option Kind) (b : ℕ) (rest : List ℕ) (said : San) → piece_letter b ≡ o → man_of o b rest ≡ Some said → IsForm said × SaysSo (b ∷ rest) said
man_says None b rest said letter e = pawn_says (b ∷ rest) said e
man_says (Some k) b rest said letter e =
    let is = letter_form b k letter in
    let says = piece_says k rest said is.piece e in
    (says.0, (says.1.0, says.1.1, ap (λ (l : List ℕ). l ++ rest) is.is ∙ says.1.2))

-- a text of the grammar has its form
pub reads_form : (text : List ℕ) (said : San) → san_of text ≡ Some said → IsForm said × SaysSo text said
unfolding san_of
reads_form [] said e = cc
reads_form (b ∷ rest) said e = elim (either (b == 79) (castling_of rest) (man_of (piece_letter b) b rest) said e) [
  | inl castles ↦ castling_says b rest said (eqb-true b 79 castles.0) castles.1
  | inr goes ↦ man_says (piece_letter b) b rest said refl goes
]

-- and a text of the form is of the grammar
abbrev Backs : Kind → Option ℕ → Option ℕ → Bool → ℕ → Option Kind → List ℕ → Type 0
Backs k file rank takes to promo sign = san_of (said_text (Goes (record { kind = k; file = file; rank = rank; takes = takes; to = to; promo = promo })) ++ sign) ≡ Some (Goes (record { kind = k; file = file; rank = rank; takes = takes; to = to; promo = promo }))

form_back : (k : Kind) (file rank : Option ℕ) (takes : Bool) (to : ℕ) (promo : Option Kind) (sign : List ℕ) → IsForm (Goes (record { kind = k; file = file; rank = rank; takes = takes; to = to; promo = promo })) → is_end sign ≡ true → Backs k file rank takes to promo sign
form_back Pawn file rank takes to promo sign form ends =
    subst (λ (r : Option ℕ). Backs Pawn file r takes to promo sign) (sym form.1.rank)
    (subst (λ (x : Bool). Backs Pawn file None x to promo sign) (sym form.1.takes) (said_pawn file to promo sign form.0.file form.0.to form.1.becomes ends))
form_back Knight file rank takes to promo sign form ends = subst (λ (o : Option Kind). Backs Knight file rank takes to o sign) (sym form.1) (said_piece Knight file rank takes to sign tt form.0.file form.0.rank form.0.to ends)
form_back Bishop file rank takes to promo sign form ends = subst (λ (o : Option Kind). Backs Bishop file rank takes to o sign) (sym form.1) (said_piece Bishop file rank takes to sign tt form.0.file form.0.rank form.0.to ends)
form_back Rook file rank takes to promo sign form ends = subst (λ (o : Option Kind). Backs Rook file rank takes to o sign) (sym form.1) (said_piece Rook file rank takes to sign tt form.0.file form.0.rank form.0.to ends)
form_back Queen file rank takes to promo sign form ends = subst (λ (o : Option Kind). Backs Queen file rank takes to o sign) (sym form.1) (said_piece Queen file rank takes to sign tt form.0.file form.0.rank form.0.to ends)
form_back King file rank takes to promo sign form ends = subst (λ (o : Option Kind). Backs King file rank takes to o sign) (sym form.1) (said_piece King file rank takes to sign tt form.0.file form.0.rank form.0.to ends)

pub form_reads : (text : List ℕ) (said : San) → IsForm said → SaysSo text said → san_of text ≡ Some said
form_reads text Short form says = ap san_of says.2 ∙ said_short says.0 says.1
form_reads text Long form says = ap san_of says.2 ∙ said_long says.0 says.1
form_reads text (Goes d) form says = ap san_of says.2 ∙ form_back d.kind d.file d.rank d.takes d.to d.promo says.0 form says.1
