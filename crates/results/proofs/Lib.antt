mod Others
