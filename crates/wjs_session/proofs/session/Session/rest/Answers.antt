use Rattle.wjs_session.proofs.session.Session.rest.Goals as goal

pub returns-clause-stands : goal.returns-clause-stands
returns-clause-stands c = record { is = c.args.self.kept c.requires; tells = c.args.self.marks c.requires }
