use Rattle.login_demo.proofs.run.Goals as goal

-- a handler hears nothing
pub returns-clause-members : goal.returns-clause-members
returns-clause-members g c = λ closed.
    c.serve_members.ensures.members closed (c.files_replies_are_plain.ensures _)
