-- What the examples are about.
use Rattle.std.specs.Prelude.{None}
use Rattle.unftp_control_facts.specs.declared.file.FileKind.TheVariants.{Directory}
use Rattle.unftp_control_facts.specs.declared.file.FileStatus.{FileStatus}

-- a directory that its owner may write, whose group and time are not known
abbrev pub a_directory : FileStatus
a_directory = record {
  kind = Directory;
  mode = 493;
  links = 2;
  uid = 1000;
  gid = 0;
  size = 4096;
  modified = None;
}
