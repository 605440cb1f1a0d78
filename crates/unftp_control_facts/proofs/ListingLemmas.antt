-- One instant has one date, and one file one line in each listing.
use Rattle.std.proofs.Common.{◌≡◌, ℤ, ◌-ℤ◌, ◌++◌, Bool, true, false, ap, sym, ◌∙◌}
use Rattle.jiff_core.specs.declared.civil.datetime.DateTime.{DateTime}
use Rattle.jiff_core.specs.DateTime.{civil_nanos}
use Rattle.jiff_core.proofs.DateTimeLemmas.{civil_nanos_injective, time_nanos_injective}
use Rattle.jiff_core.proofs.DateLemmas.{epoch_day_injective}
use Rattle.unftp_control_defs.specs.Bytes.{Bytes}
use Rattle.unftp_control_facts.specs.Files.{facts_of_file, kind_fact}
use Rattle.unftp_control_facts.specs.Listing.{IsDate, IsFactsLine, IsListLine, date_text, is_recent, list_text, ended_name, nanosecond_or_epoch}
use Rattle.unftp_control_facts.specs.declared.file.FileStatus.{FileStatus}
use Rattle.unftp_control_facts.proofs.FactTextLemmas.{HasFacts-unique}
use Rattle.unftp_control_facts.proofs.YearLemmas.{SameParts}

same_dates : (recent : Bool) {a b : DateTime} → a.date.year ≡ b.date.year → SameParts a b
    → date_text recent a ≡ date_text recent b
same_dates true year same = cc
same_dates false year same = cc

pub IsDate-unique : (now nanosecond : ℤ) {s t : Bytes} → IsDate now nanosecond s
    → IsDate now nanosecond t → s ≡ t
IsDate-unique now nanosecond p q =
    let e : civil_nanos p.0 ≡ civil_nanos q.0 = p.1 ∙ sym q.1 in
    let i = civil_nanos_injective p.0 q.0 e in
    let d = epoch_day_injective p.0.date q.0.date i.0 in
    let c = time_nanos_injective p.0.time q.0.time i.1 in
    let same : SameParts p.0 q.0 =
    record { month = d.1; day = d.2; hour = c.0; minute = c.1; second = c.2 } in
    p.2 ∙ same_dates (is_recent (now -ℤ nanosecond)) d.0 same ∙ sym q.2

pub IsFactsLine-unique : (file : FileStatus) (name : Bytes) {line other : Bytes}
    → IsFactsLine file name line → IsFactsLine file name other → line ≡ other
IsFactsLine-unique file name p q = p.2
    ∙ ap (λ facts. facts ++ ended_name name)
    (HasFacts-unique (kind_fact file.kind) (facts_of_file file) p.1 q.1)
    ∙ sym q.2

pub IsListLine-unique : (file : FileStatus) (now : ℤ) (name : Bytes) {line other : Bytes}
    → IsListLine file now name line → IsListLine file now name other → line ≡ other
IsListLine-unique file now name p q = p.2
    ∙ ap (λ date. list_text file date name)
    (IsDate-unique now (nanosecond_or_epoch file.modified) p.1 q.1)
    ∙ sym q.2
