-- A text tells one list of moves at most, and none where it has a fault.
use Rattle.std.proofs.Common.{◌≡◌, ℕ, Bool, List, [], ◌∷◌, ◌++◌, map, refl, sym, ap, ◌∙◌, subst}
use Rattle.std.proofs.lemmas.Bool.{both_ways}
use Rattle.std.specs.List.{flat_map}
use Rattle.std.specs.Prelude.{Option, Some, None}
use Rattle.board_base.specs.Board.{Places}
use Rattle.board_base.specs.Rights.{Rights, holds}
use Rattle.board_base.specs.declared.men.Colour.{Colour}
use Rattle.board_base.specs.declared.moves.Move.{Move}
use Rattle.board_base.specs.declared.castles.Castle.TheVariants.{WhiteShort, WhiteLong, BlackShort, BlackLong}
use Rattle.play_rules.specs.States.{Position, StandsFor}
use Rattle.san_text.specs.Fits.{IsOnly, IsFoundFault, fits}
use Rattle.san_text.specs.FromArray.{Tells, TellsNone}
use Rattle.san_text.specs.Games.{LeadTo, FirstFault, IsGameText, IsGameFault}
use Rattle.san_text.specs.Spelling.{next}
use Rattle.san_text.specs.Words.{Say, FirstBad, moves_said, word_of}
use Rattle.san_text.specs.declared.grammar.San.{San}
use Rattle.san_text.specs.declared.reading.SanFault.{SanFault}
use Rattle.san_text.specs.declared.reading.SanFault.TheVariants as fault
use Rattle.san_text.specs.declared.games.SanGameFault.{SanGameFault}
use Rattle.san_text.specs.declared.games.SanGameFault.TheVariants.{BadText, NoMove, Many, Memory}
use Rattle.san_text.specs.declared.words.Word.{Word}
use Rattle.san_text.proofs.Written.{position_of, rights_of}

same_told : {A : Type 0} (xs ys : List A) → map (λ x. Some x) xs ≡ map (λ x. Some x) ys → xs ≡ ys
same_told {A} [] [] e = refl
same_told {A} [] (y ∷ ys) e = cc
same_told {A} (x ∷ xs) [] e = cc
same_told {A} (x ∷ xs) (y ∷ ys) e =
    let first : x ≡ y = cc in
    let rest : map (λ z. Some z) xs ≡ map (λ z. Some z) ys = cc in
    ap (λ (z : A). z ∷ xs) first ∙ ap (λ (l : List A). y ∷ l) (same_told xs ys rest)

-- words say one list of moves at most
one_said : (words : List (List ℕ)) (s t : List San) → Say words s → Say words t → s ≡ t
one_said words s t a b = sym a.said_are ∙ ap (flat_map moves_said) (same_told a.told b.told (sym a.words_are ∙ b.words_are)) ∙ b.said_are

-- and nothing where one isn't of the grammar
none_bad : (before : List (List ℕ)) (text : List ℕ) (after : List (List ℕ)) (told : List Word) → map word_of (before ++ text ∷ after) ≡ map (λ w. Some w) told → word_of text ≡ None → ⊥
none_bad [] text after [] e bad = cc
none_bad [] text after (t ∷ told) e bad = let here : word_of text ≡ Some t = cc in cc
none_bad (b ∷ before) text after [] e bad = cc
none_bad (b ∷ before) text after (t ∷ told) e bad = let rest : map word_of (before ++ text ∷ after) ≡ map (λ w. Some w) told = cc in none_bad before text after told rest bad

never_bad : (words : List (List ℕ)) (said : List San) (n : ℕ) → Say words said → FirstBad words n → ⊥
never_bad words said n says first = none_bad first.before first.word first.after says.told (ap (map word_of) (sym first.split) ∙ says.words_are) first.bad

-- what is said names one list of moves at most
one_lead : (p : Position) (said : List San) (g h : List Move) (q r : Position) → LeadTo p said g q → LeadTo p said h r → g ≡ h
one_lead p [] [] [] q r a b = refl
one_lead p [] [] (n ∷ h) q r a b = absurd b
one_lead p [] (m ∷ g) h q r a b = absurd a
one_lead p (one ∷ said) [] h q r a b = absurd a
one_lead p (one ∷ said) (m ∷ g) [] q r a b = absurd b
one_lead p (one ∷ said) (m ∷ g) (n ∷ h) q r a b =
    let same : n ≡ m = a.0.alone n b.0.passes in
    ap (λ (k : Move). k ∷ g) (sym same) ∙ ap (λ (l : List Move). n ∷ l) (one_lead (next p n) said g h q r (subst (λ (k : Move). LeadTo (next p k) said g q) (sym same) a.1) b.1)

-- and none where a ply names none
no_found : (cause : SanFault) (test : Move → Bool) (m : Move) → IsOnly test m → IsFoundFault cause test → ⊥
no_found fault.BadText test m only found = absurd found
no_found fault.NoMove test m only found = both_ways _ (found m) only.passes
no_found fault.Many test m only found = found.differ (only.alone found.one found.one_passes ∙ sym (only.alone found.other found.other_passes))

no_lead : (cause : SanFault) (p : Position) (before after : List San) (one : San) (moves g : List Move) (q r : Position) → LeadTo p before moves q → IsFoundFault cause (fits one q) → LeadTo p (before ++ one ∷ after) g r → ⊥
no_lead cause p [] after one [] [] q r leads found whole = absurd whole
no_lead cause p [] after one [] (m ∷ g) q r leads found whole = no_found cause (fits one p) m whole.0 (subst (λ (s : Position). IsFoundFault cause (fits one s)) (sym leads) found)
no_lead cause p [] after one (n ∷ moves) g q r leads found whole = absurd leads
no_lead cause p (b ∷ before) after one [] g q r leads found whole = absurd leads
no_lead cause p (b ∷ before) after one (n ∷ moves) [] q r leads found whole = absurd whole
no_lead cause p (b ∷ before) after one (n ∷ moves) (m ∷ g) q r leads found whole =
    let same : m ≡ n = leads.0.alone m whole.0.passes in
    no_lead cause (next p n) before after one moves g q r leads.1 found (subst (λ (k : Move). LeadTo (next p k) (before ++ one ∷ after) g r) same whole.1)

never_first : (cause : SanFault) (p : Position) (said : List San) (n : ℕ) (g : List Move) (r : Position) → FirstFault cause p said n → LeadTo p said g r → ⊥
never_first cause p said n g r first leads =
    no_lead cause p first.before first.after first.one first.moves g first.state r first.leads first.fault (subst (λ (l : List San). LeadTo p l g r) first.split leads)

pub one_text : (p : Position) (text : List ℕ) (g h : List Move) → IsGameText p text g → IsGameText p text h → g ≡ h
one_text p text g h a b =
    let same : b.said ≡ a.said = one_said _ b.said a.said b.says a.says in
    one_lead p a.said g h a.played.end b.played.end a.played.leads (subst (λ (l : List San). LeadTo p l h b.played.end) same b.played.leads)

pub no_fault : (p : Position) (text : List ℕ) (g : List Move) (f : SanGameFault) → IsGameText p text g → IsGameFault f p text → f ≡ Memory
no_fault p text g (BadText n) tells is = absurd (never_bad _ tells.said n tells.says is)
no_fault p text g (NoMove n) tells is =
    let same : tells.said ≡ is.said = one_said _ tells.said is.said tells.says is.says in
    absurd (never_first fault.NoMove p is.said n g tells.played.end is.first (subst (λ (l : List San). LeadTo p l g tells.played.end) same tells.played.leads))
no_fault p text g (Many n) tells is =
    let same : tells.said ≡ is.said = one_said _ tells.said is.said tells.says is.says in
    absurd (never_first fault.Many p is.said n g tells.played.end is.first (subst (λ (l : List San). LeadTo p l g tells.played.end) same tells.played.leads))
no_fault p text g Memory tells is = refl

same_rights : (r s : Rights) → ((x : _) → holds r x ≡ holds s x) → r ≡ s
same_rights r s same =
    ap (λ (b : Bool). rights_of b r.white_long r.black_short r.black_long) (same WhiteShort)
    ∙ ap (λ (b : Bool). rights_of s.white_short b r.black_short r.black_long) (same WhiteLong)
    ∙ ap (λ (b : Bool). rights_of s.white_short s.white_long b r.black_long) (same BlackShort)
    ∙ ap (λ (b : Bool). rights_of s.white_short s.white_long s.black_short b) (same BlackLong)

-- one state stands for a game
pub one_state : (o : List Bool) (g : List Move) (p q : Position) → StandsFor p o g → StandsFor q o g → p ≡ q
one_state o g p q a b =
    let rights : p.rights ≡ q.rights = same_rights p.rights q.rights (λ x. a.rights_are x ∙ sym (b.rights_are x)) in
    ap (λ (s : Places). position_of s p.turn p.rights p.ep p.clock) (a.board_is ∙ sym b.board_is)
    ∙ ap (λ (c : Colour). position_of q.board c p.rights p.ep p.clock) (a.turn_is ∙ sym b.turn_is)
    ∙ ap (λ (r : Rights). position_of q.board q.turn r p.ep p.clock) rights
    ∙ ap (λ (e : Option ℕ). position_of q.board q.turn q.rights e p.clock) (a.ep_is ∙ sym b.ep_is)
    ∙ ap (λ (k : ℕ). position_of q.board q.turn q.rights q.ep k) (a.clock_is ∙ sym b.clock_is)

pub one_telling : (o : List Bool) (text : List ℕ) (g h : List Move) → Tells o text g → Tells o text h → g ≡ h
one_telling o text g h a b =
    let same : b.0 ≡ a.0 = one_state o [] b.0 a.0 b.1 a.1 in
    one_text a.0 text g h a.2 (subst (λ (p : Position). IsGameText p text h) same b.2)

pub no_telling : (o : List Bool) (text : List ℕ) (g : List Move) (f : SanGameFault) → Tells o text g → TellsNone o text f → f ≡ Memory
no_telling o text g f a b =
    let same : b.0 ≡ a.0 = one_state o [] b.0 a.0 b.1 a.1 in
    no_fault a.0 text g f a.2 (subst (λ (p : Position). IsGameFault f p text) same b.2)
