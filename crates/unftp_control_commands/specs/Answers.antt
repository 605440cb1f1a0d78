-- What each command answers, by what it asks for and how the server is set up.
use Rattle.std.specs.Prelude.{ℕ, Bool, true, false, List, [], ◌∷◌, ◌++◌, map, decimal, codes}
use Rattle.unftp_control_defs.specs.Bytes.{Bytes, SP}
use Rattle.unftp_control_defs.specs.FtpReply.{FtpReply, CodeAndMsg, MultiLine}
use Rattle.unftp_control_defs.specs.declared.parameters.AuthParam.{AuthParam}
use Rattle.unftp_control_defs.specs.declared.parameters.AuthParam.TheVariants.{Ssl, Tls}
use Rattle.unftp_control_defs.specs.declared.parameters.ModeParam.{ModeParam}
use Rattle.unftp_control_defs.specs.declared.parameters.ModeParam.TheVariants.{Stream}
use Rattle.unftp_control_defs.specs.declared.parameters.Opt.{Opt}
use Rattle.unftp_control_defs.specs.declared.parameters.Opt.TheVariants.{Utf8}
use Rattle.unftp_control_defs.specs.declared.parameters.ProtParam.{ProtParam}
use Rattle.unftp_control_defs.specs.declared.parameters.ProtParam.TheVariants.{Clear, Private}
use Rattle.unftp_control_defs.specs.declared.parameters.StruParam.{StruParam}
use Rattle.unftp_control_defs.specs.declared.parameters.StruParam.TheVariants.{File}
use Rattle.unftp_control_commands.specs.declared.session.SessionChange.{SessionChange}
use Rattle.unftp_control_commands.specs.declared.session.SessionChange.TheVariants as change
use Rattle.unftp_control_commands.specs.declared.epsv.Passive.{Passive}
use Rattle.unftp_control_commands.specs.declared.epsv.Passive.TheVariants.{Port, Prebound}

abbrev pub no_tls : FtpReply
no_tls = CodeAndMsg 502 (codes "TLS/SSL not configured")

-- AUTH, where TLS is configured or not (RFC 4217, section 4)
abbrev pub auth_reply : Bool → AuthParam → FtpReply
auth_reply false protocol = no_tls
auth_reply true Tls = CodeAndMsg 234 (codes "Upgrading to TLS")
auth_reply true Ssl = CodeAndMsg 504 (codes "Auth SSL not implemented")

-- what the session has to do once the reply to AUTH is sent
abbrev pub auth_change : Bool → AuthParam → SessionChange
auth_change true Tls = change.SecureControlChannel
auth_change _ _ = change.Nothing

-- PROT, where TLS is configured or not (RFC 4217, section 9)
abbrev pub prot_reply : Bool → ProtParam → FtpReply
prot_reply false param = no_tls
prot_reply true Clear = CodeAndMsg 200 (codes "PROT OK. Switching data channel to plaintext")
prot_reply true Private = CodeAndMsg 200 (codes "PROT OK. Securing data channel")
prot_reply true _ = CodeAndMsg 504 (codes "PROT S/E not implemented")

-- what the session has to do once the reply to PROT is sent
abbrev pub prot_change : Bool → ProtParam → SessionChange
prot_change true Clear = change.DataTls false
prot_change true Private = change.DataTls true
prot_change _ _ = change.Nothing

-- EPSV, with the port that listens (RFC 2428, section 3)
abbrev pub port_reply : ℕ → FtpReply
port_reply port =
    CodeAndMsg 229 (codes "Entering Extended Passive Mode (|||" ++ decimal port ++ codes "|)")

abbrev pub epsv_reply : Passive → FtpReply
epsv_reply (Port port) = port_reply port
epsv_reply Prebound = CodeAndMsg 502 (codes "EPSV not supported in this mode")

-- MODE, STRU and OPTS (RFC 959, section 4.1.2; RFC 2389, section 4)
abbrev pub mode_reply : ModeParam → FtpReply
mode_reply Stream = CodeAndMsg 200 (codes "Using Stream transfer mode")
mode_reply _ = CodeAndMsg 504 (codes "Only Stream transfer mode is supported")

abbrev pub stru_reply : StruParam → FtpReply
stru_reply File = CodeAndMsg 200 (codes "In File structure mode")
stru_reply _ = CodeAndMsg 504 (codes "Only File structure mode is supported")

abbrev pub opts_reply : Opt → FtpReply
opts_reply (Utf8 true) = CodeAndMsg 200 (codes "Always in UTF-8 mode.")
opts_reply (Utf8 false) = CodeAndMsg 504 (codes "Non UTF-8 mode not supported")

-- HELP, with these lines (RFC 959, section 4.1.3)
abbrev pub help_reply_with : List Bytes → FtpReply
help_reply_with lines = MultiLine 214 lines

abbrev pub help_reply : FtpReply
help_reply = help_reply_with
    (codes "Help:" ∷ codes "Powered by libunftp: 0.24.0"
    ∷ codes "View the docs at: https://unftp.rs/" ∷ [])

-- FEAT, with these features: each in a line of its own after a space, between a first and a last
-- line (RFC 2389, section 3.2)
abbrev pub feat_reply_with : List Bytes → FtpReply
feat_reply_with listed = MultiLine 211
    (codes "Extensions supported:" ∷ map (λ feature. SP ∷ feature) listed ++ codes "END" ∷ [])

-- the lines where a setting is on, and none where it is off
abbrev pub when : Bool → List Bytes → List Bytes
when true lines = lines
when false lines = []

-- the features in the order of their bytes
abbrev pub features : Bool → Bool → Bool → List Bytes
features tls restart site_md5 =
    when tls (codes "AUTH TLS" ∷ [])
    ++ (codes "EPSV" ∷ codes "MDTM" ∷ codes "MLSD" ∷ codes "MLST" ∷ [])
    ++ when tls (codes "PBSZ" ∷ codes "PROT" ∷ [])
    ++ when restart (codes "REST STREAM" ∷ [])
    ++ when site_md5 (codes "SITE MD5" ∷ [])
    ++ (codes "SIZE" ∷ codes "UTF8" ∷ [])

abbrev pub feat_reply : Bool → Bool → Bool → FtpReply
feat_reply tls restart site_md5 = feat_reply_with (features tls restart site_md5)

-- MLST, with these facts of the path (RFC 3659, section 7.2)
abbrev pub facts_reply : Bytes → Bytes → FtpReply
facts_reply facts path =
    MultiLine 250 (codes " Listing" ∷ (codes " " ++ facts ++ codes " " ++ path) ∷ codes "End" ∷ [])
