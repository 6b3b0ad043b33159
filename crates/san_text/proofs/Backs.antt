-- The text of what is said of a move is read as that.
use Rattle.std.proofs.Common.{◌≡◌, ◌<◌, ◌+◌, ◌-◌, ◌/◌, ◌%◌, ◌==◌, ℕ, Bool, true, false, cond, List, [], ◌∷◌, ◌++◌, refl, ap, ◌∙◌, arith, option_map}
use Rattle.std.proofs.lemmas.Bool.{and_from, le-leb, cond-true, cond-false, false_from_ne_true, leb-true, eqb-true, and_right, and_left}
use Rattle.std.specs.Prelude.{Option, Some, None, nat_le, is_some}
use Rattle.board_base.specs.Texts.{◌>>=◌, square_at, square_text}
use Rattle.board_base.specs.declared.men.Kind.{Kind}
use Rattle.board_base.specs.declared.men.Kind.TheVariants.{Pawn, Knight, Bishop, Rook, Queen, King}
use Rattle.board_base.proofs.TextLemmas.{square_back}
use Rattle.san_text.specs.Forms.{CanBecome}
use Rattle.san_text.specs.Grammar.{is_end, target_of, file_of, rank_of, first, after, file_head, after_file, rank_head, after_rank, takes_head, after_takes, piece_goes, piece_of, piece_letter, promotion_of, pawn_goes, pawn_end, pawn_of, man_of, san_of}
use Rattle.san_text.specs.Spelling.{capital, file_text, rank_text, takes_text, promotion_text, said_text}
use Rattle.san_text.specs.Small.{IsSmall}
use Rattle.san_text.specs.declared.grammar.San.{San}
use Rattle.san_text.specs.declared.grammar.San.TheVariants.{Short, Long}

same_both : {A : Type 0} (b : Bool) (x : A) → cond b x x ≡ x
same_both true x = refl
same_both false x = refl

not_here : {A : Type 0} (b : Bool) (o : Option A) → o ≡ None → cond b None o ≡ None
not_here true o e = refl
not_here false o e = e

not_there : {A : Type 0} (b : Bool) (o : Option A) → o ≡ None → cond b o None ≡ None
not_there true o e = e
not_there false o e = refl

high : (b n : ℕ) → n < b → nat_le b n ≡ false
high b n above = false_from_ne_true _ (λ e. let low = leb-true b n e in absurd (omega arith))

other : (a b : ℕ) → (a ≡ b → ⊥) → (a == b) ≡ false
other a b no_way = false_from_ne_true _ (λ e. no_way (eqb-true a b e))

file_back : (f : ℕ) → f < 8 → file_of (97 + f) ≡ Some f
file_back f low =
    cond-true _ (Some (97 + f - 97)) None (and_from _ _ (le-leb 97 (97 + f) (omega arith)) (le-leb (97 + f) 104 (omega arith)))
    ∙ ap (λ (n : ℕ). Some n) (let e : 97 + f - 97 ≡ f = omega arith in e)

rank_back : (r : ℕ) → r < 8 → rank_of (49 + r) ≡ Some r
rank_back r low =
    cond-true _ (Some (49 + r - 49)) None (and_from _ _ (le-leb 49 (49 + r) (omega arith)) (le-leb (49 + r) 56 (omega arith)))
    ∙ ap (λ (n : ℕ). Some n) (let e : 49 + r - 49 ≡ r = omega arith in e)

-- a file's letter is no rank's digit, and a rank's digit no file's letter
file_no_rank : (f : ℕ) → rank_of (97 + f) ≡ None
file_no_rank f = cond-false _ _ None (and_right _ _ (high (97 + f) 56 (omega arith)))

rank_no_file : (r : ℕ) → r < 8 → file_of (49 + r) ≡ None
rank_no_file r low = cond-false _ _ None (and_left _ _ (high 97 (49 + r) (omega arith)))

-- two letters are no square
two_letters : (a f : ℕ) → square_at a (97 + f) ≡ None
two_letters a f = cond-false _ _ None (and_right _ _ (high (97 + f) 56 (omega arith)))

target_back : (a b t : ℕ) (mark : List ℕ) → is_end mark ≡ true → square_at a b ≡ Some t → target_of (a ∷ b ∷ mark) ≡ Some t
target_back a b t mark ends e = cond-true _ _ None ends ∙ e

record Taken (x : Bool) (text rest : List ℕ) : Type 0 where
  head : takes_head text ≡ x
  tail : after_takes text ≡ rest

taken : (x : Bool) (a : ℕ) (rest : List ℕ) → (a == 120) ≡ false → Taken x (takes_text x ++ a ∷ rest) (a ∷ rest)
taken true a rest apart = record { head = refl; tail = refl }
taken false a rest apart = record { head = apart; tail = cond-false _ _ _ apart }

record Ranked (r : Option ℕ) (text rest : List ℕ) : Type 0 where
  head : rank_head text ≡ r
  tail : after_rank text ≡ rest

ranked : (r : Option ℕ) (rest : List ℕ) → IsSmall r → first rank_of rest ≡ None → Ranked r (rank_text r ++ rest) rest
ranked None rest small none = record { head = none; tail = ap (λ (o : Option ℕ). after o rest) none }
ranked (Some n) rest small none =
    let e = rank_back n small in
    record { head = e; tail = ap (λ (o : Option ℕ). after o ((49 + n) ∷ rest)) e }

record Filed (f : Option ℕ) (text rest : List ℕ) : Type 0 where
  head : file_head text ≡ f
  tail : after_file text ≡ rest

filed : (f : Option ℕ) (rest : List ℕ) → IsSmall f → file_head rest ≡ None → ((n : ℕ) → target_of ((97 + n) ∷ rest) ≡ None) → Filed f (file_text f ++ rest) rest
filed None rest small none apart = record { head = none; tail = ap (λ (o : Option ℕ). after o rest) none }
filed (Some n) rest small none apart =
    let e : file_head ((97 + n) ∷ rest) ≡ Some n = ap (λ (o : Option ℕ). cond (is_some o) None (file_of (97 + n))) (apart n) ∙ file_back n small in
    record { head = e; tail = ap (λ (o : Option ℕ). after o ((97 + n) ∷ rest)) e }

-- no file begins what follows one
file_ends : (r : Option ℕ) (x : Bool) (t : ℕ) (mark : List ℕ) → IsSmall r → t < 64 → is_end mark ≡ true → file_head (rank_text r ++ (takes_text x ++ (square_text t ++ mark))) ≡ None
file_ends None true t mark small low ends = same_both _ None
file_ends None false t mark small low ends =
    ap (λ (o : Option ℕ). cond (is_some o) None (file_of (97 + t % 8))) (target_back (97 + t % 8) (49 + t / 8) t mark ends (square_back t low))
file_ends (Some n) true t mark small low ends = rank_no_file n small
file_ends (Some n) false t mark small low ends = not_here _ (file_of (49 + n)) (rank_no_file n small)

-- a file and what follows it are no target
file_apart : (r : Option ℕ) (x : Bool) (t : ℕ) (mark : List ℕ) (n : ℕ) → target_of ((97 + n) ∷ (rank_text r ++ (takes_text x ++ (square_text t ++ mark)))) ≡ None
file_apart None true t mark n = refl
file_apart None false t mark n = not_there _ (square_at (97 + n) (97 + t % 8)) (two_letters (97 + n) (t % 8))
file_apart (Some m) true t mark n = refl
file_apart (Some m) false t mark n = refl

rank_ends : (x : Bool) (t : ℕ) (mark : List ℕ) → first rank_of (takes_text x ++ (square_text t ++ mark)) ≡ None
rank_ends true t mark = refl
rank_ends false t mark = file_no_rank (t % 8)

abbrev by_target : Kind → Option ℕ → Option ℕ → Bool → List ℕ → Option San
by_target k f r x text = option_map (piece_goes k f r x) (target_of text)

abbrev by_rank : Kind → Option ℕ → Option ℕ → List ℕ → Option San
by_rank k f r text = by_target k f r (takes_head text) (after_takes text)

abbrev by_origin : Kind → Option ℕ → List ℕ → Option San
by_origin k f text = by_rank k f (rank_head text) (after_rank text)

piece_parts : (k : Kind) (text t1 t2 t3 : List ℕ) (f r : Option ℕ) (x : Bool) (to : ℕ) → Filed f text t1 → Ranked r t1 t2 → Taken x t2 t3 → target_of t3 ≡ Some to → piece_of k text ≡ Some (piece_goes k f r x to)
unfolding piece_of
piece_parts k text t1 t2 t3 f r x to file rank takes target =
    ap (λ (o : Option ℕ). by_origin k o (after_file text)) file.head
    ∙ ap (by_origin k f) file.tail
    ∙ ap (λ (o : Option ℕ). by_rank k f o (after_rank t1)) rank.head
    ∙ ap (by_rank k f r) rank.tail
    ∙ ap (λ (b : Bool). by_target k f r b (after_takes t2)) takes.head
    ∙ ap (by_target k f r x) takes.tail
    ∙ ap (option_map (piece_goes k f r x)) target

piece_back : (k : Kind) (f r : Option ℕ) (x : Bool) (t : ℕ) (mark : List ℕ) → IsSmall f → IsSmall r → t < 64 → is_end mark ≡ true → piece_of k (file_text f ++ (rank_text r ++ (takes_text x ++ (square_text t ++ mark)))) ≡ Some (piece_goes k f r x t)
piece_back k f r x t mark small_f small_r low ends =
    let small_file : t % 8 < 8 = omega arith in
    let target : List ℕ = square_text t ++ mark in
    piece_parts k (file_text f ++ (rank_text r ++ (takes_text x ++ target))) (rank_text r ++ (takes_text x ++ target)) (takes_text x ++ target) target f r x t
    (filed f (rank_text r ++ (takes_text x ++ (square_text t ++ mark))) small_f (file_ends r x t mark small_r low ends) (file_apart r x t mark))
    (ranked r (takes_text x ++ (square_text t ++ mark)) small_r (rank_ends x t mark))
    (taken x (97 + t % 8) ((49 + t / 8) ∷ mark) (other _ _ (λ e. absurd (omega arith))))
    (target_back (97 + t % 8) (49 + t / 8) t mark ends (square_back t low))

-- the text of a piece's move, and a sign
abbrev pub piece_text : Kind → Option ℕ → Option ℕ → Bool → ℕ → List ℕ → List ℕ
piece_text k f r x t mark = said_text (piece_goes k f r x t) ++ mark

pub joined : (k : Kind) (f r : Option ℕ) (x : Bool) (t : ℕ) (mark : List ℕ) → piece_text k f r x t mark ≡ capital k ++ (file_text f ++ (rank_text r ++ (takes_text x ++ (square_text t ++ mark))))
joined k f r x t mark = end (capital k) f r x
  where
    end : (letter : List ℕ) (f r : Option ℕ) (x : Bool) → ((letter ++ file_text f ++ rank_text r) ++ (takes_text x ++ square_text t ++ [])) ++ mark ≡ letter ++ (file_text f ++ (rank_text r ++ (takes_text x ++ (square_text t ++ mark))))
    end [] None None true = refl
    end [] None None false = refl
    end [] None (Some b) true = refl
    end [] None (Some b) false = refl
    end [] (Some a) None true = refl
    end [] (Some a) None false = refl
    end [] (Some a) (Some b) true = refl
    end [] (Some a) (Some b) false = refl
    end (c ∷ letter) f r x = ap (λ (l : List ℕ). c ∷ l) (end letter f r x)

abbrev pub IsPiece : Kind → Type 0
IsPiece Pawn = ⊥
IsPiece k = Unit {0}

pub said_piece : (k : Kind) (f r : Option ℕ) (x : Bool) (t : ℕ) (mark : List ℕ) → IsPiece k → IsSmall f → IsSmall r → t < 64 → is_end mark ≡ true → san_of (piece_text k f r x t mark) ≡ Some (piece_goes k f r x t)
unfolding san_of
said_piece Pawn f r x t mark piece small_f small_r low ends = absurd piece
said_piece Knight f r x t mark piece small_f small_r low ends = ap san_of (joined Knight f r x t mark) ∙ piece_back Knight f r x t mark small_f small_r low ends
said_piece Bishop f r x t mark piece small_f small_r low ends = ap san_of (joined Bishop f r x t mark) ∙ piece_back Bishop f r x t mark small_f small_r low ends
said_piece Rook f r x t mark piece small_f small_r low ends = ap san_of (joined Rook f r x t mark) ∙ piece_back Rook f r x t mark small_f small_r low ends
said_piece Queen f r x t mark piece small_f small_r low ends = ap san_of (joined Queen f r x t mark) ∙ piece_back Queen f r x t mark small_f small_r low ends
said_piece King f r x t mark piece small_f small_r low ends = ap san_of (joined King f r x t mark) ∙ piece_back King f r x t mark small_f small_r low ends

-- what a pawn becomes is read again
promotion_back : (promo : Option Kind) (mark : List ℕ) → CanBecome promo → is_end mark ≡ true → promotion_of (promotion_text promo ++ mark) ≡ Some promo
promotion_back None [] can ends = refl
promotion_back None (c ∷ []) can ends = cond-true _ _ None ends
promotion_back None (c ∷ d ∷ mark) can ends = cc
promotion_back (Some Pawn) mark can ends = absurd can
promotion_back (Some King) mark can ends = absurd can
promotion_back (Some Knight) mark can ends = cond-true _ _ None ends
promotion_back (Some Bishop) mark can ends = cond-true _ _ None ends
promotion_back (Some Rook) mark can ends = cond-true _ _ None ends
promotion_back (Some Queen) mark can ends = cond-true _ _ None ends

end_back : (file : Option ℕ) (t : ℕ) (promo : Option Kind) (mark : List ℕ) → t < 64 → CanBecome promo → is_end mark ≡ true → pawn_end file (square_text t ++ promotion_text promo ++ mark) ≡ Some (pawn_goes file t promo)
end_back file t promo mark low can ends =
    ap (λ (o : Option ℕ). o >>= (λ to. option_map (pawn_goes file to) (promotion_of (promotion_text promo ++ mark)))) (square_back t low)
    ∙ ap (option_map (pawn_goes file t)) (promotion_back promo mark can ends)

pawn_back : (file : Option ℕ) (t : ℕ) (promo : Option Kind) (mark : List ℕ) → IsSmall file → t < 64 → CanBecome promo → is_end mark ≡ true → pawn_of (file_text file ++ takes_text (is_some file) ++ square_text t ++ promotion_text promo ++ mark) ≡ Some (pawn_goes file t promo)
pawn_back None t promo mark small low can ends =
    let low_rank : t / 8 < 8 = omega arith in
    cond-false _ _ _ (other (49 + t / 8) 120 (λ e. absurd (omega arith))) ∙ end_back None t promo mark low can ends
pawn_back (Some f) t promo mark small low can ends =
    ap (λ (o : Option ℕ). o >>= (λ file. pawn_end (Some file) (square_text t ++ promotion_text promo ++ mark))) (file_back f small)
    ∙ end_back (Some f) t promo mark low can ends

no_letter : (f : ℕ) → f < 8 → piece_letter (97 + f) ≡ None
no_letter f low =
    cond-false _ _ _ (other (97 + f) 75 (λ e. absurd (omega arith)))
    ∙ cond-false _ _ _ (other (97 + f) 78 (λ e. absurd (omega arith)))
    ∙ cond-false _ _ _ (other (97 + f) 66 (λ e. absurd (omega arith)))
    ∙ cond-false _ _ _ (other (97 + f) 82 (λ e. absurd (omega arith)))
    ∙ cond-false _ _ _ (other (97 + f) 81 (λ e. absurd (omega arith)))

-- a text that a file's letter begins is a pawn's
by_file : (f : ℕ) (rest : List ℕ) → f < 8 → san_of ((97 + f) ∷ rest) ≡ pawn_of ((97 + f) ∷ rest)
unfolding san_of
by_file f rest low =
    cond-false _ _ _ (other (97 + f) 79 (λ e. absurd (omega arith)))
    ∙ ap (λ (o : Option Kind). man_of o (97 + f) rest) (no_letter f low)

pub pawn_joined : (file : Option ℕ) (t : ℕ) (promo : Option Kind) (mark : List ℕ) → said_text (pawn_goes file t promo) ++ mark ≡ file_text file ++ takes_text (is_some file) ++ square_text t ++ promotion_text promo ++ mark
pawn_joined None t promo mark = refl
pawn_joined (Some f) t promo mark = refl

pub said_pawn : (file : Option ℕ) (t : ℕ) (promo : Option Kind) (mark : List ℕ) → IsSmall file → t < 64 → CanBecome promo → is_end mark ≡ true → san_of (said_text (pawn_goes file t promo) ++ mark) ≡ Some (pawn_goes file t promo)
said_pawn None t promo mark small low can ends =
    ap san_of (pawn_joined None t promo mark) ∙ by_file (t % 8) ((49 + t / 8) ∷ promotion_text promo ++ mark) (omega arith) ∙ pawn_back None t promo mark small low can ends
said_pawn (Some f) t promo mark small low can ends =
    ap san_of (pawn_joined (Some f) t promo mark) ∙ by_file f (120 ∷ square_text t ++ promotion_text promo ++ mark) small ∙ pawn_back (Some f) t promo mark small low can ends

pub said_short : (mark : List ℕ) → is_end mark ≡ true → san_of (said_text Short ++ mark) ≡ Some Short
unfolding san_of
said_short [] ends = refl
said_short (c ∷ []) ends = cond-true _ _ None ends
said_short (c ∷ d ∷ mark) ends = cc

pub said_long : (mark : List ℕ) → is_end mark ≡ true → san_of (said_text Long ++ mark) ≡ Some Long
unfolding san_of
said_long mark ends = cond-true _ _ None ends
