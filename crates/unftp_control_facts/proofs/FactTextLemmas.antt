-- One instant has one text, and one file one text of facts.
use Rattle.std.proofs.Common.{◌≡◌, ℕ, ◌++◌, ℤ, List, Option, Some, None, codes, decimal, ap, sym, ◌∙◌}
use Rattle.jiff_core.specs.declared.timestamp.Timestamp.{Timestamp}
use Rattle.jiff_core.specs.DateTime.{civil_nanos}
use Rattle.jiff_core.proofs.DateTimeLemmas.{civil_nanos_injective, time_nanos_injective}
use Rattle.jiff_core.proofs.DateLemmas.{epoch_day_injective}
use Rattle.unftp_control_facts.specs.Facts.{IsTimeText, IsModified, FileFacts, HasFacts, IsFacts, type_fact, modify_fact, id_fact}
use Rattle.unftp_control_facts.proofs.YearLemmas.{SameParts, same_parts}

pub IsTimeText-unique : {n : ℤ} {s t : Option (List ℕ)} → IsTimeText n s → IsTimeText n t → s ≡ t
IsTimeText-unique p q =
    let e : civil_nanos p.0 ≡ civil_nanos q.0 = p.1 ∙ sym q.1 in
    let i = civil_nanos_injective p.0 q.0 e in
    let d = epoch_day_injective p.0.date q.0.date i.0 in
    let c = time_nanos_injective p.0.time q.0.time i.1 in
    let same : SameParts p.0 q.0 =
    record { month = d.1; day = d.2; hour = c.0; minute = c.1; second = c.2 } in
    p.2 ∙ same_parts d.0 same ∙ sym q.2

IsModified-unique : (modified : Option Timestamp) {s t : Option (List ℕ)} → IsModified modified s
    → IsModified modified t → s ≡ t
IsModified-unique None p q = p ∙ sym q
IsModified-unique (Some instant) p q = IsTimeText-unique p q

abbrev facts_with : List ℕ → FileFacts → Option (List ℕ) → List ℕ
facts_with first file time = first ++ codes "size=" ++ decimal file.size ++ codes ";"
    ++ modify_fact time
    ++ id_fact (codes "unix.uid=") file.uid ++ id_fact (codes "unix.gid=") file.gid

pub HasFacts-unique : (first : List ℕ) (file : FileFacts) {facts other : List ℕ}
    → HasFacts first file facts → HasFacts first file other → facts ≡ other
HasFacts-unique first file p q =
    p.2 ∙ ap (facts_with first file) (IsModified-unique file.modified p.1 q.1) ∙ sym q.2

pub IsFacts-unique : (file : FileFacts) {facts other : List ℕ} → IsFacts file facts
    → IsFacts file other → facts ≡ other
IsFacts-unique file = HasFacts-unique (type_fact file.is_dir) file
