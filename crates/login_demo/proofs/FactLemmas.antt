-- The facts of files, and the replies to MLST and MDTM, each of which is the only one that the
-- facts allow.
use Rattle.std.proofs.Common.{◌≡◌, ℕ, ℤ, ◌++◌, false, Some, None, Result, Ok, Err, codes, decimal, refl, ap, ◌∙◌}
use Rattle.std.specs.Fmt.{digits}
use Rattle.std.specs.Result.{IfOk}
use Rattle.unftp_control_defs.specs.Bytes.{Bytes}
use Rattle.unftp_control_commands.specs.Answers.{facts_reply}
use Rattle.unftp_control.specs.FactsReply.{IsFactsReply}
use Rattle.unftp_control_facts.specs.Facts.{FileFacts, IsFacts, IsTimeText, id_fact, modify_fact, type_fact}
use Rattle.unftp_control_message.specs.ReplyMeaning.{reply_of}
use Rattle.unftp_control_message.specs.declared.reply.reply.Reply.{Reply}
use Rattle.unftp_control_facts.proofs.FactTextLemmas.{IsFacts-unique, IsTimeText-unique}
use Rattle.login_demo.specs.declared.tree.File.{File}
use Rattle.login_demo.specs.declared.tree.File.TheVariants as file
use Rattle.login_demo.specs.declared.tree.Entry.TheVariants as entry
use Rattle.login_demo.specs.Facts.{entry_facts}
use Rattle.login_demo.specs.Tree.{file_size, file_time}

pub entry_facts-file : (f : File) (size : ℕ) → size ≡ file_size f
    → entry_facts (entry.File f) ≡ type_fact false ++ codes "size=" ++ decimal size ++ codes ";"
    ++ modify_fact (Some (file_time f))
    ++ id_fact (codes "unix.uid=") 0 ++ id_fact (codes "unix.gid=") 0
unfolding digits
entry_facts-file file.Readme size h = rw h refl
entry_facts-file file.Today size h = rw h refl

pub same_time : {nanosecond : ℤ} {text time : Bytes} → IsTimeText nanosecond (Some text)
    → IsTimeText nanosecond (Some time) → text ≡ time
same_time {text} {time} p q =
    let same : Some text ≡ Some time = IsTimeText-unique p q in
    cc

pub has_time : {nanosecond : ℤ} {time : Bytes} → IsTimeText nanosecond None
    → IsTimeText nanosecond (Some time) → ⊥
has_time {time} p q =
    let same : None ≡ Some time = IsTimeText-unique p q in cc

pub only_facts_reply : {E : Type 0} (file : FileFacts) {facts path shown : Bytes}
    (answer : Result Reply E) → path ≡ shown → IsFacts file facts
    → IfOk answer (λ reply. IsFactsReply file path (reply_of reply))
    → IfOk answer (λ reply. reply_of reply ≡ facts_reply facts shown)
only_facts_reply file {facts} {path} (Ok reply) same known said = said.2
    ∙ ap (λ facts. facts_reply facts path) (IsFacts-unique file said.1 known)
    ∙ ap (facts_reply facts) same
only_facts_reply file (Err error) same known said = tt
