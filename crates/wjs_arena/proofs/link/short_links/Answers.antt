use Rattle.wjs_arena.proofs.link.short_links.Goals as goal

pub returns-in-Some-short_link-clause-links : goal.returns-in-Some-short_link-clause-links
returns-in-Some-short_link-clause-links c = record { prototype = c.in-Some.ensures; scope = c.in-Some-short_link.ensures }
