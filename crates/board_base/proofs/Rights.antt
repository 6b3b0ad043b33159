-- What a set with one more castling holds.
use Rattle.std.proofs.Common.{◌≡◌, ◌≢◌, true, ◌⊎◌, inl, inr, refl}
use Rattle.board_base.specs.Rights.{Rights, holds, with_castling}
use Rattle.board_base.specs.declared.castles.Castle.{Castle}
use Rattle.board_base.specs.declared.castles.Castle.TheVariants.{WhiteShort, WhiteLong, BlackShort, BlackLong}

-- it is in the set
pub holds_added : (s : Rights) (x : Castle) → holds (with_castling s x) x ≡ true
holds_added s WhiteShort = refl
holds_added s WhiteLong = refl
holds_added s BlackShort = refl
holds_added s BlackLong = refl

-- of the others it holds what was there before
pub holds_others : (s : Rights) (x c : Castle) → c ≢ x → holds (with_castling s x) c ≡ holds s c
holds_others s WhiteShort WhiteShort other = absurd (other refl)
holds_others s WhiteLong WhiteLong other = absurd (other refl)
holds_others s BlackShort BlackShort other = absurd (other refl)
holds_others s BlackLong BlackLong other = absurd (other refl)
holds_others s x c other = refl

-- what was there before is still there
pub holds_kept : (s : Rights) (x c : Castle) → holds s c ≡ true → holds (with_castling s x) c ≡ true
holds_kept s WhiteShort WhiteShort h = refl
holds_kept s WhiteLong WhiteLong h = refl
holds_kept s BlackShort BlackShort h = refl
holds_kept s BlackLong BlackLong h = refl
holds_kept s x c h = h

-- a castling in it is that one, or was there before
pub held_or_added : (s : Rights) (x c : Castle) → holds (with_castling s x) c ≡ true → (c ≡ x) ⊎ (holds s c ≡ true)
held_or_added s WhiteShort WhiteShort h = inl refl
held_or_added s WhiteLong WhiteLong h = inl refl
held_or_added s BlackShort BlackShort h = inl refl
held_or_added s BlackLong BlackLong h = inl refl
held_or_added s x c h = inr h
