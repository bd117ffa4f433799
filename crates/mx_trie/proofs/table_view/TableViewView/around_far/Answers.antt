use Rattle.mx_trie.proofs.table_view.TableViewView.around_far.Goals as goal

pub returns : goal.returns
returns g c = c.far_in.ensures c.args.self.now.words c.requires.lawful
