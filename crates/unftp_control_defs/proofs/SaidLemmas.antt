-- What a verb makes of what it reads says the verb, the name and the value.
use Rattle.std.proofs.Common.{◌≡◌, [], ◌∷◌, refl}
use Rattle.unftp_control_defs.specs.Bytes.{Bytes}
use Rattle.unftp_control_defs.specs.FtpCommand.{kind, maybe_raw, maybe_text, unless_empty}
use Rattle.unftp_control_defs.specs.Said.{KindSaysBack, SaysBack}
use Rattle.unftp_control_defs.specs.declared.verb.Kind.TheVariants as kinds
use Rattle.unftp_control_defs.specs.declared.verb.Verb.{Verb}
use Rattle.unftp_control_defs.specs.declared.verb.Verb.TheVariants as verb

raw_fits : (verb : Verb) → kind verb ≡ kinds.Raw → (v : Bytes)
    → SaysBack verb [] (maybe_raw (unless_empty v))
raw_fits verb.User is [] = (refl, refl)
raw_fits verb.User is (b ∷ v) = (refl, refl)
raw_fits verb.Pass is [] = (refl, refl)
raw_fits verb.Pass is (b ∷ v) = (refl, refl)
raw_fits verb.Acct is [] = (refl, refl)
raw_fits verb.Acct is (b ∷ v) = (refl, refl)
raw_fits verb.Stat is [] = (refl, refl)
raw_fits verb.Stat is (b ∷ v) = (refl, refl)
raw_fits verb is v = cc

path_fits : (verb : Verb) → kind verb ≡ kinds.OptionalText → (text : Bytes)
    → SaysBack verb [] (maybe_text (unless_empty text))
path_fits verb.Nlst is [] = (refl, refl)
path_fits verb.Nlst is (b ∷ text) = (refl, refl)
path_fits verb.Mlst is [] = (refl, refl)
path_fits verb.Mlst is (b ∷ text) = (refl, refl)
path_fits verb.Mlsd is [] = (refl, refl)
path_fits verb.Mlsd is (b ∷ text) = (refl, refl)
path_fits verb.Other is [] = (refl, refl)
path_fits verb.Other is (b ∷ text) = (refl, refl)
path_fits verb is text = cc

pub site_fits : (name : Bytes) → KindSaysBack kinds.OptionalText verb.Site name
site_fits name [] = (refl, refl)
site_fits name (b ∷ text) = (refl, refl)

pub other_fits : (name : Bytes) → KindSaysBack kinds.OptionalText verb.Other name
other_fits name [] = (refl, refl)
other_fits name (b ∷ text) = (refl, refl)

list_fits : (text : Bytes) → SaysBack verb.List [] (maybe_text (unless_empty text))
list_fits [] = (refl, refl)
list_fits (b ∷ text) = (refl, refl)

pub fits : (verb : Verb) → KindSaysBack (kind verb) verb []
fits verb.User = raw_fits verb.User refl
fits verb.Pass = raw_fits verb.Pass refl
fits verb.Acct = raw_fits verb.Acct refl
fits verb.Stat = raw_fits verb.Stat refl
fits verb.Nlst = path_fits verb.Nlst refl
fits verb.Mlst = path_fits verb.Mlst refl
fits verb.Mlsd = path_fits verb.Mlsd refl
fits verb.Other = path_fits verb.Other refl
fits verb.List = list_fits
fits verb = search
