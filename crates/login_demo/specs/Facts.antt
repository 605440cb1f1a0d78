-- The replies about an entry of the tree, or about none.
use Rattle.std.specs.Prelude.{◌++◌, decimal, Option, Some, None, codes}
use Rattle.unftp_control_defs.specs.Bytes.{Bytes}
use Rattle.unftp_control_commands.specs.Answers.{facts_reply}
use Rattle.unftp_control_facts.specs.Facts.{FileFacts}
use Rattle.unftp_control_defs.specs.FtpReply.{FtpReply, CodeAndMsg}
use Rattle.unftp_control_commands.specs.ReplyTexts.{quoted}
use Rattle.login_demo.specs.declared.facts.EntryFacts.{EntryFacts}
use Rattle.login_demo.specs.declared.tree.Directory.{Directory}
use Rattle.login_demo.specs.declared.tree.Entry.{Entry}
use Rattle.login_demo.specs.declared.tree.Entry.TheVariants as entry
use Rattle.login_demo.specs.Tree.{entry_names, file_size, file_time}
use Rattle.login_demo.specs.Walking.{path_text}

-- what the code knows of an entry, which has no owner
abbrev pub facts_known : EntryFacts → FileFacts
facts_known facts = record {
  is_dir = facts.is_directory;
  size = facts.size;
  modified = facts.modified;
  uid = 0;
  gid = 0;
}

-- the facts of an entry (RFC 3659, section 7.5)
abbrev pub entry_facts : Entry → Bytes
entry_facts (entry.Directory directory) = codes "type=dir;size=0;"
entry_facts (entry.File file) =
    codes "type=file;size=" ++ decimal (file_size file) ++ codes ";modify=" ++ file_time file
    ++ codes ";"

-- PWD (RFC 959, section 4.1.3 and appendix II)
abbrev pub pwd_reply : Directory → FtpReply
pwd_reply directory = CodeAndMsg 257
    (quoted (path_text (entry_names (entry.Directory directory)))
    ++ codes " is the current directory")

-- MLST (RFC 3659, section 7.2), with the path from the root
abbrev pub mlst_reply : Option Entry → FtpReply
mlst_reply (Some one) = facts_reply (entry_facts one) (path_text (entry_names one))
mlst_reply None = CodeAndMsg 550 (codes "No such file or directory")

-- the reply where a path leads to no file
abbrev pub no_file : FtpReply
no_file = CodeAndMsg 550 (codes "No such file")

-- SIZE (RFC 3659, section 4.1)
abbrev pub size_reply : Option Entry → FtpReply
size_reply (Some (entry.File file)) = CodeAndMsg 213 (decimal (file_size file))
size_reply _ = no_file

-- MDTM (RFC 3659, section 3.1)
abbrev pub mdtm_reply : Option Entry → FtpReply
mdtm_reply (Some (entry.File file)) = CodeAndMsg 213 (file_time file)
mdtm_reply _ = no_file
